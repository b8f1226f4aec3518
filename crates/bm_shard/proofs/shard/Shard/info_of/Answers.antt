use Rattle.std.proofs.Common.{◌≡◌, ℕ, Option, None, sym, ap, subst, ◌∙◌}
use Rattle.std.specs.Prelude.{option_and_then}
use Rattle.bm_base.specs.declared.replica.BlockInfo.{BlockInfo}
use Rattle.bm_base.specs.Maps.Map.{get}
use Rattle.bm_arena.specs.Contents.{Contents}
use Rattle.bm_arena.specs.HeldMaps.{blocks_of, info_at}
use Rattle.bm_arena.proofs.HeldReplicas.{get-blocks_of}
use Rattle.bm_levels.specs.SlotHoldings.{holdings_with}
use Rattle.bm_shard.specs.ShardView.{Seen}
use Rattle.bm_shard.proofs.shard.Shard.info_of.Goals as goal

pub returns-in-Some : goal.returns-in-Some
unfolding holdings_with
returns-in-Some c =
    let a = c.arena-arena.result.now in
    let P : Seen → Type 0 = λ S. c.info.result ≡ get S.holdings.blocks c.args.id in
    let Q : Contents → Type 0 = λ x. c.info.result ≡ get (blocks_of x) c.args.id in
    subst P c.self.view_is
    (subst Q c.arena-arena.ensures
    (c.info.ensures ∙ ap (λ (o : Option ℕ). option_and_then (λ slot. info_at a slot) o) c.in-Some.ensures ∙ sym (get-blocks_of a c.args.id)))

pub returns-in-None : goal.returns-in-None
unfolding holdings_with
returns-in-None c =
    let a = c.arena-arena.result.now in
    let none : Option BlockInfo = None in
    let P : Seen → Type 0 = λ S. none ≡ get S.holdings.blocks c.args.id in
    let Q : Contents → Type 0 = λ x. none ≡ get (blocks_of x) c.args.id in
    subst P c.self.view_is
    (subst Q c.arena-arena.ensures (ap (λ (o : Option ℕ). option_and_then (λ slot. info_at a slot) o) c.in-None.ensures ∙ sym (get-blocks_of a c.args.id)))
