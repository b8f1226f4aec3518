use Rattle.std.proofs.Common.{subst, sym, ap, ◌∙◌}
use Rattle.bm_base.specs.declared.ids.Part.{Part}
use Rattle.bm_base.specs.Words.{Holdings, done, change_cluster}
use Rattle.bm_parts.specs.Parts.{change_part}
use Rattle.bm_parts.specs.PlacedLaws.{IsPlaced}
use Rattle.bm_parts.proofs.WellPlaced.{event_keeps_placed}
use Rattle.bm_shard.specs.ShardView.{Seen}
use Rattle.bm_shard.specs.EventEffects.{HasChanged, owns}
use Rattle.bm_shard.proofs.ChangedBlocks.{changed_after, stays_up_to_date}
use Rattle.bm_shard.proofs.OwnEvents.{left_alone, not_owned}
use Rattle.bm_shard.proofs.Reservations.{ready_without}
use Rattle.bm_shard.proofs.LeavingStorages.{none_leaves}
use Rattle.bm_shard.proofs.shard.Shard.commit.Goals as goal

pub returns-then-not-owns-clause-holdings : goal.returns-then-not-owns-clause-holdings
returns-then-not-owns-clause-holdings c = (left_alone c.args.topology.now.cluster c.args.event.now c.args.self.now c.abort.new.self (sym c.owns.ensures ∙ c.if-not-owns.true) c.requires.up_to_date c.abort.ensures.same).0

pub returns-then-not-owns-clause-done : goal.returns-then-not-owns-clause-done
returns-then-not-owns-clause-done c = (left_alone c.args.topology.now.cluster c.args.event.now c.args.self.now c.abort.new.self (sym c.owns.ensures ∙ c.if-not-owns.true) c.requires.up_to_date c.abort.ensures.same).1

pub returns-then-not-owns-clause-up_to_date : goal.returns-then-not-owns-clause-up_to_date
returns-then-not-owns-clause-up_to_date c = (left_alone c.args.topology.now.cluster c.args.event.now c.args.self.now c.abort.new.self (sym c.owns.ensures ∙ c.if-not-owns.true) c.requires.up_to_date c.abort.ensures.same).2

-- an event with a reservation

pub returns-then-needs_reservation-clause-up_to_date : goal.returns-then-needs_reservation-clause-up_to_date
returns-then-needs_reservation-clause-up_to_date c =
    let C = c.args.topology.now.cluster in
    let old = c.args.self.now in
    let D = change_cluster C c.args.event.now in
    record {
      levels = c.change.ensures.changed.levels c.requires.up_to_date.levels;
      placed = subst (λ H. IsPlaced D H) (sym c.change.ensures.changed.holdings) (event_keeps_placed C old.holdings c.args.event.now old.part.index old.part.shards c.show_invariant.ensures c.requires.cluster c.requires.up_to_date.placed);
    }

-- an event without a reservation, after earlier reservations are dropped

pub change-requires-2 : goal.change-requires-2
change-requires-2 c =
    let same = c.abort-2.ensures.same in
    let still = stays_up_to_date c.args.topology.now.cluster c.args.self.now c.abort-2.new.self c.requires.up_to_date same in
    record {
      cluster = c.requires.cluster;
      multi = c.requires.multi;
      own = ap (λ (S : Seen). owns S.part c.args.event.now) same.rest ∙ sym c.owns.ensures ∙ c.if-not-owns.false;
      placed = still.placed;
      ready = ready_without c.args.event.now c.abort-2.new.self (sym c.needs_reservation.ensures ∙ c.if-needs_reservation.false);
      none = λ _. c.abort-2.ensures.unused;
    }

abbrev to_part : goal.After-change-2 → Holdings → Part → Holdings
to_part c H part = change_part c.args.topology.now.cluster H part.index part.shards c.args.event.now

changed : (c : goal.After-change-2) → HasChanged c.args.topology.now.cluster (change_cluster c.args.topology.now.cluster c.args.event.now) c.args.self.now c.change-2.new.self (to_part c c.args.self.now.holdings c.args.self.now.part) c.change-2.result
changed c =
    changed_after c.args.topology.now.cluster (change_cluster c.args.topology.now.cluster c.args.event.now) c.args.self.now c.abort-2.new.self c.change-2.new.self (to_part c) c.change-2.result c.requires.up_to_date c.abort-2.ensures.same
    c.change-2.ensures.changed

pub returns-clause-holdings : goal.returns-clause-holdings
returns-clause-holdings c = (changed c).holdings

pub returns-clause-done : goal.returns-clause-done
returns-clause-done c = (changed c).done ∙ ap (done c.args.self.now.holdings) (sym (changed c).holdings)

pub returns-clause-up_to_date : goal.returns-clause-up_to_date
returns-clause-up_to_date c =
    let C = c.args.topology.now.cluster in
    let old = c.args.self.now in
    let D = change_cluster C c.args.event.now in
    record {
      levels = (changed c).levels c.requires.up_to_date.levels;
      placed = subst (λ H. IsPlaced D H) (sym (changed c).holdings) (event_keeps_placed C old.holdings c.args.event.now old.part.index old.part.shards c.show_invariant.ensures c.requires.cluster c.requires.up_to_date.placed);
    }

pub returns-clause-part : goal.returns-clause-part
returns-clause-part c = (changed c).part

pub returns-clause-rounds : goal.returns-clause-rounds
returns-clause-rounds c = ((changed c).round, (changed c).pend)

pub returns-then-not-owns-clause-lists : goal.returns-then-not-owns-clause-lists
returns-then-not-owns-clause-lists c s leaving there =
    let b = not_owned c.args.self.now.part c.args.event.now (sym c.owns.ensures ∙ c.if-not-owns.true) in
    none_leaves c.args.topology.now.cluster c.args.event.now b.0 b.1 s leaving
