use Rattle.std.specs.Prelude.{◌≡◌, ℕ, List, map, None, Result, Ok, Err, IfOk}
use Rattle.std.specs.List.{All}
use Rattle.std.proofs.Common.{◌∙◌, ap, sym, subst}
use Rattle.bm_base.specs.Maps.Lists.{has_repeats}
use Rattle.bm_base.specs.Machine.State.{limits_of, Cluster}
use Rattle.bm_base.specs.Words.{RoundLimits, commands_of}
use Rattle.bm_base.specs.declared.refusal.Refusal.{Refusal}
use Rattle.bm_base.specs.declared.round.Wish.{Wish}
use Rattle.bm_base.specs.Choices.{chosen_transfers, chosen_deletes, merged_wishes}
use Rattle.bm_parts.specs.BoundedWishes.{part_before}
use Rattle.bm_shard.specs.ShardView.{Seen}
use Rattle.bm_shards.specs.declared.round_parts.FoundRound.{FoundRound}
use Rattle.bm_shards.specs.RoundChoice.{next_parts, next_excess, HasExcess, IsChosen}
use Rattle.bm_shards.specs.RoundWork.{CanFind}
use Rattle.bm_shards.proofs.Choices.{uncut}
use Rattle.bm_shards.proofs.round_parts.find_round.Goals as goal

can_find : (C : Cluster) (r : ℕ) (ss zs : List (ℕ × Seen)) → zs ≡ ss → All (λ s. CanFind C r s.1) ss → All (λ s. CanFind C r s.1) zs
can_find C r ss zs same all = subst (λ us. All (λ s. CanFind C r s.1) us) (sym same) all

pub find_before-requires : goal.find_before-requires
find_before-requires g c =
    let C = c.args.topology.now.cluster in
    let same = c.loop-wishes.invariant in
    record {
      shards = can_find C c.args.round c.args.shards.now.items c.loop-wishes.shards.items same c.requires.shards;
      one_wish = ap (λ ss. has_repeats (map (λ (w : Wish). w.block) (merged_wishes (next_parts C ss)))) same ∙ c.requires.one_wish;
    }

pub find_before-requires-2 : goal.find_before-requires-2
find_before-requires-2 g c =
    let C = c.args.topology.now.cluster in
    let same = c.loop-wishes.invariant in
    record {
      shards = can_find C c.args.round c.args.shards.now.items c.loop-wishes.shards.items same c.requires.shards;
      one_wish = ap (λ ss. has_repeats (map (λ (w : Wish). w.block) (merged_wishes (next_parts C ss)))) same ∙ c.requires.one_wish;
    }

pub returns-then-is_of_all-clause-excess : goal.returns-then-is_of_all-clause-excess
returns-then-is_of_all-clause-excess g c = c.in_ok-found.ensures.excess ∙ ap (next_excess c.args.topology.now.cluster) c.loop-wishes.invariant

pub returns-then-is_of_all-clause-chosen : goal.returns-then-is_of_all-clause-chosen
returns-then-is_of_all-clause-chosen g c =
    let C = c.args.topology.now.cluster in
    let limits = limits_of c.args.config.now in
    let same = c.loop-wishes.invariant in
    let found = c.in_ok-found.ensures in
    record {
      transfers = c.is_of_all.ensures (next_parts C c.args.shards.now.items) c.if-is_of_all.true (found.transfers ∙ ap (λ ss. chosen_transfers limits C (map (part_before c.in_ok-bound.bound) (next_parts C ss))) same);
      deletes = found.deletes ∙ ap (λ ss. chosen_deletes limits C (next_parts C ss)) same;
      commands = found.commands;
    }

pub returns-clause-excess : goal.returns-clause-excess
returns-clause-excess g c = subst (λ ss. IfOk c.find_before-2.result (λ f. HasExcess c.args.topology.now.cluster ss f.parts.items)) c.loop-wishes.invariant c.find_before-2.ensures.excess

-- the choice from all wishes
of_all : (limits : RoundLimits) (C : Cluster) (r : ℕ) (ss zs : List (ℕ × Seen)) → zs ≡ ss → (f : Result FoundRound Refusal)
    → IfOk f (λ x. x.choice.chosen.transfers ≡ chosen_transfers limits C (map (part_before None) (next_parts C zs)))
    → IfOk f (λ x. x.choice.chosen.deletes ≡ chosen_deletes limits C (next_parts C zs))
    → IfOk f (λ x. x.choice.commands ≡ commands_of C r x.choice.chosen.transfers x.choice.chosen.deletes)
    → IfOk f (λ x. IsChosen limits C r ss x.choice)
of_all limits C r ss zs same (Ok x) transfers deletes commands = record {
  transfers = transfers ∙ ap (chosen_transfers limits C) (uncut (next_parts C zs)) ∙ ap (λ us. chosen_transfers limits C (next_parts C us)) same;
  deletes = deletes ∙ ap (λ us. chosen_deletes limits C (next_parts C us)) same;
  commands = commands;
}
of_all limits C r ss zs same (Err e) transfers deletes commands = transfers

pub returns-clause-chosen : goal.returns-clause-chosen
returns-clause-chosen g c =
    let found = c.find_before-2.ensures in
    of_all (limits_of c.args.config.now) c.args.topology.now.cluster c.args.round c.args.shards.now.items c.loop-wishes.shards.items c.loop-wishes.invariant c.find_before-2.result found.transfers found.deletes found.commands
