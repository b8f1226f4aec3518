use Rattle.std.specs.Prelude.{IfOk}
use Rattle.std.proofs.Common.{◌≡◌, List, [], map, ap, subst, ◌∙◌}
use Rattle.bm_base.specs.Words.{limits_of, has_repeats}
use Rattle.bm_base.specs.declared.round.Wish.{Wish}
use Rattle.bm_base.specs.Choices.{chosen_transfers, transfers_over, one_by_one}
use Rattle.bm_round.proofs.KeyedLists.{wishes_alone_are}
use Rattle.bm_round.proofs.choice.choose_from_parts.Goals as goal

pub choose_transfers-requires : goal.choose_transfers-requires
choose_transfers-requires c =
    let wished =
    ap (map (λ w. w.now)) c.as_slice-then-parts-eq1.ensures.value ∙ c.in_ok-wishes.ensures ∙ c.as_slice.ensures
    ∙ wishes_alone_are c.args.parts.now c.index-parts-0.result c.if-parts-eq1.true c.requires.wishes in
    record { apart = ap (λ (ws : List Wish). has_repeats (map (λ w. w.block) ws)) wished ∙ c.requires.one_wish }

pub returns-then-parts-eq1-clause-transfers : goal.returns-then-parts-eq1-clause-transfers
unfolding chosen_transfers
returns-then-parts-eq1-clause-transfers c =
    let wished =
    ap (map (λ w. w.now)) c.as_slice-then-parts-eq1.ensures.value ∙ c.in_ok-wishes.ensures ∙ c.as_slice.ensures
    ∙ wishes_alone_are c.args.parts.now c.index-parts-0.result c.if-parts-eq1.true c.requires.wishes in
    let over : List Wish → List _ = λ ws. transfers_over (limits_of c.args.config.now) c.args.topology.now.cluster [] (one_by_one ws) in
    subst (λ ws. IfOk c.choose_transfers.result (λ v. v.items ≡ over ws)) wished c.choose_transfers.ensures.transfers
