use Rattle.std.proofs.Common.{◌≡◌, ◌≤◌, ◌+◌, ◌==◌, length, filter, List, arith, sym, ap, subst, ◌∙◌}
use Rattle.bm_base.specs.declared.commands.Transfer.{Transfer}
use Rattle.bm_base.specs.Machine.State.{Holdings}
use Rattle.bm_base.specs.RoundParts.{round_part, round_on_part, own_transfers}
use Rattle.bm_arena.specs.Contents.{IsLawful}
use Rattle.bm_levels.specs.SlotHoldings.{holdings_with}
use Rattle.bm_parts.specs.PlacedLaws.{IsPlaced}
use Rattle.bm_parts.proofs.WellPlaced.{round_keeps_placed}
use Rattle.bm_pending.specs.PendingMap.{capacity}
use Rattle.bm_shard.specs.ShardView.{Seen, IsReadyForRound}
use Rattle.bm_shard.specs.UpToDate.{IsUpToDate, next_part}
use Rattle.bm_shard.proofs.Levels.{right_by_number, right_by_slot}
use Rattle.bm_shard.proofs.AfterRound.{same_surplus, on_part}
use Rattle.bm_levels.specs.UnusedEntries.{HasNoUnused}
use Rattle.bm_arena.specs.HeldMaps.{holdings_of}
use Rattle.bm_shard.proofs.UnusedEntries.{unused_by, same_none, none_revised, none_marked, none_kept, none_outside}
use Rattle.bm_shard.proofs.shard.Shard.take_round.Goals as goal

pub remark_excess-requires : goal.remark_excess-requires
unfolding round_part
remark_excess-requires c = record {
  surplus =
      let v = c.self.inside in
      let C = c.args.topology.now.cluster in
      c.as_slice.ensures ∙ c.requires.part ∙ ap (λ (S : Seen). (next_part C S).excess) (sym c.self.view_is) ∙ same_surplus C v.pend (v.round + 1) v.blocks.arena v.pending.map;
}

pub insert_own-requires-clause-capacity : goal.insert_own-requires-clause-capacity
unfolding IsReadyForRound
insert_own-requires-clause-capacity c b =
    let P : Seen → Type 0 = λ s. IsReadyForRound c.args.chosen.now s in
    let ready = subst P (sym c.self.view_is) c.requires.ready in
    let Q : List Transfer → Type 0 = λ ts. length (filter (λ t. t.block == b) (own_transfers c.self.inside.part.index c.self.inside.part.shards ts)) ≤ capacity c.self.inside.pending b in
    omega (arith, subst Q (sym c.as_slice-3.ensures) (ready b), c.drop_expired.ensures.capacities b)

-- the holdings after a round, of the shard's own blocks
abbrev left_of : (c : goal.After-self-2-1) → Seen → Holdings
left_of c S = round_on_part c.args.topology.now.cluster S.pend (S.round + 1) S.holdings S.part.index S.part.shards c.args.chosen.now.transfers c.args.chosen.now.deletes

holdings_left : (c : goal.After-self-2-1) → holdings_with c.mark_ordered.new.self.arena c.release_unused.new.self.map ≡ left_of c c.args.self.now
holdings_left c =
    let v = c.self.inside in
    let C = c.args.topology.now.cluster in
    let H = holdings_with v.blocks.arena v.pending.map in
    on_part C v.pend (v.round + 1) v.part.index v.part.shards c.as_slice-3.result.now c.as_slice-2.result.now v.blocks.arena c.remark_excess.new.self.arena c.mark_ordered.new.self.arena v.pending.map
    c.drop_expired.new.self.map c.release_unused.new.self.map c.remark_excess.ensures.blocks c.remark_excess.ensures.replicas c.mark_ordered.ensures.blocks c.mark_ordered.ensures.replicas c.drop_expired.ensures.map
    (c.release_unused.ensures.map ∙ c.insert_own.ensures)
    ∙ ap (λ ts. round_on_part C v.pend (v.round + 1) H v.part.index v.part.shards ts c.as_slice-2.result.now) c.as_slice-3.ensures
    ∙ ap (λ ds. round_on_part C v.pend (v.round + 1) H v.part.index v.part.shards c.args.chosen.now.transfers ds) c.as_slice-2.ensures
    ∙ ap (left_of c) c.self.view_is

pub returns-clause-holdings : goal.returns-clause-holdings
returns-clause-holdings c = holdings_left c

pub returns-clause-up_to_date : goal.returns-clause-up_to_date
returns-clause-up_to_date c =
    let v = c.self.inside in
    let C = c.args.topology.now.cluster in
    let P : Seen → Type 0 = λ s. IsUpToDate C s in
    let S = c.args.self.now in
    let before = right_by_slot C v.blocks v.pending.map (subst (λ a. IsLawful a) c.arena.ensures c.show_invariant-2.ensures) c.show_invariant.ensures (subst P (sym c.self.view_is) c.requires.up_to_date).levels in
    record {
      levels = right_by_number C c.mark_ordered.new.self c.release_unused.new.self.map (subst (λ a. IsLawful a) c.arena-2.ensures c.show_invariant-3.ensures) (c.mark_ordered.ensures.levels (c.remark_excess.ensures.levels before));
      placed = subst (λ H. IsPlaced C H) (sym (holdings_left c))
          (round_keeps_placed C S.pend (S.round + 1) S.holdings S.part.index S.part.shards c.args.chosen.now.transfers c.args.chosen.now.deletes c.requires.up_to_date.placed);
    }

none : (c : goal.After-self-2-1) → HasNoUnused c.mark_ordered.new.self.arena
unfolding holdings_of
none c = none_kept c.self.inside.blocks c.self.inside.pending.map c.self.inside.part c.self.inside.round c.self.inside.pend _ _ c.mark_ordered.new.self c.args.self.now c.self.view_is c.requires.none (λ b unused. unused_by c.self.inside.blocks.arena c.remark_excess.new.self.arena c.remark_excess.ensures.numbers (same_none _ _ c.remark_excess.ensures.blocks) (none_marked c.args.topology.now.cluster (holdings_of c.self.inside.blocks.arena) _ c.remark_excess.ensures.replicas) b (unused_by c.remark_excess.new.self.arena c.mark_ordered.new.self.arena c.mark_ordered.ensures.numbers (same_none _ _ c.mark_ordered.ensures.blocks) (none_revised _ _ _ c.mark_ordered.ensures.replicas) b unused))

pub invariant_of-self : goal.invariant_of-self
invariant_of-self c = record { index = c.self.invariant.index; ready = tt; unused = λ b h. absurd (none c b h) }

pub returns-clause-unused : goal.returns-clause-unused
returns-clause-unused c = none_outside c.mark_ordered.new.self c.release_unused.new.self.map c.self.inside.part _ c.self.inside.pend _ _ (none c)
