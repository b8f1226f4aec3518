use Rattle.std.proofs.Common.{ℕ, ◌≡◌, ◌≤◌, ◌+◌, ◌%◌, List, [], ◌∷◌, subst, sym, ap, ◌∙◌, arith}
use Rattle.std.proofs.Math.Nat.{add-mod_right}
use Rattle.bm_base.specs.declared.event.Entry.{Entry}
use Rattle.bm_base.specs.Machine.Entries.{ReportedBlock, blocks_of_entry}
use Rattle.bm_report.specs.ReportedBlocks.{of_part}
use Rattle.bm_report.specs.Ready.{named_of, CanBeAdded}
use Rattle.bm_report.specs.DuringReport.{IsEntered, IsCounted}
use Rattle.bm_report.proofs.NumberRuns.{reported_from, reported_first, reported_next, reported_past}
use Rattle.bm_report.proofs.ByNumber.{IsLeft, left-first, left-can, left-next, left-last}
use Rattle.bm_report.proofs.uncached_numbers.add_run.Goals as goal

pub loop-next-init : goal.loop-next-init
loop-next-init c =
    let from : c.entry.inside.0.0 ≡ c.args.entry.now.from = ap (λ (e : Entry). e.from) c.entry.view_is in
    let P : List ReportedBlock → Type 0 = λ l. IsLeft c.args.topology.now.cluster c.args.storage (of_part c.args.part (blocks_of_entry c.args.entry.now)) c.args.arena.now c.args.tally.now l c.args.arena.now c.args.tally.now in
    record {
      own = c.first_of_part-next.ensures.of_part;
      left =
          subst P
          (reported_first c.args.part c.args.entry.now c.first_of_part-next.result c.requires.part c.first_of_part-next.ensures.of_part (omega (arith, from, c.first_of_part-next.ensures.from)) (omega (arith, from, c.first_of_part-next.ensures.near)))
          (left-first c.args.topology.now.cluster c.args.storage (of_part c.args.part (blocks_of_entry c.args.entry.now)) c.args.arena.now c.args.tally.now c.requires.set);
    }

pub add_number-requires : goal.add_number-requires
add_number-requires c =
    let to : c.from-last.result ≡ c.args.entry.now.to = c.from-last.ensures ∙ ap (λ (e : Entry). e.to) c.entry.view_is in
    let within : c.loop-next.next ≤ c.args.entry.now.to = omega (arith, c.loop-next-test.true, to) in
    let one : ReportedBlock = record { id = c.loop-next.next; stamp = c.args.entry.now.stamp } in
    let P : List ReportedBlock → Type 0 = λ l. IsLeft c.args.topology.now.cluster c.args.storage (of_part c.args.part (blocks_of_entry c.args.entry.now)) c.args.arena.now c.args.tally.now l c.loop-next.arena c.loop-next.tally in
    let Q : Entry → Type 0 = λ e. CanBeAdded c.args.topology.now.cluster c.args.storage (record { id = c.loop-next.next; stamp = e.stamp } ∷ []) c.loop-next.arena c.loop-next.tally in
    subst Q (sym c.entry.view_is)
    (left-can c.args.topology.now.cluster c.args.storage (of_part c.args.part (blocks_of_entry c.args.entry.now)) c.args.arena.now c.args.tally.now (one ∷ []) (of_part c.args.part (reported_from c.args.entry.now (c.loop-next.next + c.args.part.shards))) c.loop-next.arena c.loop-next.tally
    (subst P (reported_next c.args.part c.args.entry.now c.loop-next.next c.requires.part c.loop-next.invariant.own within) c.loop-next.invariant.left))

pub loop-next-preserved : goal.loop-next-preserved
loop-next-preserved c =
    let to : c.from-last.result ≡ c.args.entry.now.to = c.from-last.ensures ∙ ap (λ (e : Entry). e.to) c.entry.view_is in
    let within : c.loop-next.next ≤ c.args.entry.now.to = omega (arith, c.loop-next-test.true, to) in
    let one : ReportedBlock = record { id = c.loop-next.next; stamp = c.args.entry.now.stamp } in
    let P : List ReportedBlock → Type 0 = λ l. IsLeft c.args.topology.now.cluster c.args.storage (of_part c.args.part (blocks_of_entry c.args.entry.now)) c.args.arena.now c.args.tally.now l c.loop-next.arena c.loop-next.tally in
    let E : Entry → Type 0 = λ e. IsEntered c.args.topology.now.cluster c.args.storage (named_of c.loop-next.arena (record { id = c.loop-next.next; stamp = e.stamp } ∷ [])) c.loop-next.arena c.add_number.new.arena in
    let K : Entry → Type 0 = λ e. IsCounted c.args.topology.now.cluster c.args.storage (named_of c.loop-next.arena (record { id = c.loop-next.next; stamp = e.stamp } ∷ [])) c.loop-next.arena c.add_number.new.arena c.loop-next.tally c.add_number.new.tally in
    let N : ℕ → Type 0 = λ k. IsLeft c.args.topology.now.cluster c.args.storage (of_part c.args.part (blocks_of_entry c.args.entry.now)) c.args.arena.now c.args.tally.now (of_part c.args.part (reported_from c.args.entry.now (c.loop-next.next + k))) c.add_number.new.arena c.add_number.new.tally in
    record {
      own = ap (λ k. (c.loop-next.next + k) % c.args.part.shards) c.from-next.ensures ∙ add-mod_right c.loop-next.next c.args.part.shards ∙ c.loop-next.invariant.own;
      left =
          subst N (sym c.from-next.ensures)
          (left-next c.args.topology.now.cluster c.args.storage (of_part c.args.part (blocks_of_entry c.args.entry.now)) c.args.arena.now c.args.tally.now (one ∷ []) (of_part c.args.part (reported_from c.args.entry.now (c.loop-next.next + c.args.part.shards))) c.loop-next.arena c.add_number.new.arena c.loop-next.tally c.add_number.new.tally
          (subst P (reported_next c.args.part c.args.entry.now c.loop-next.next c.requires.part c.loop-next.invariant.own within) c.loop-next.invariant.left)
          (subst E c.entry.view_is c.add_number.ensures.entered) (subst K c.entry.view_is c.add_number.ensures.counted));
    }

last : (c : goal.After-loop-next) → IsEntered c.args.topology.now.cluster c.args.storage (named_of c.args.arena.now (of_part c.args.part (blocks_of_entry c.args.entry.now))) c.args.arena.now c.loop-next.arena
    × IsCounted c.args.topology.now.cluster c.args.storage (named_of c.args.arena.now (of_part c.args.part (blocks_of_entry c.args.entry.now))) c.args.arena.now c.loop-next.arena c.args.tally.now c.loop-next.tally
last c =
    let to : c.from-last.result ≡ c.args.entry.now.to = c.from-last.ensures ∙ ap (λ (e : Entry). e.to) c.entry.view_is in
    let P : List ReportedBlock → Type 0 = λ l. IsLeft c.args.topology.now.cluster c.args.storage (of_part c.args.part (blocks_of_entry c.args.entry.now)) c.args.arena.now c.args.tally.now l c.loop-next.arena c.loop-next.tally in
    left-last c.args.topology.now.cluster c.args.storage (of_part c.args.part (blocks_of_entry c.args.entry.now)) c.args.arena.now c.args.tally.now c.loop-next.arena c.loop-next.tally
    (subst P (reported_past c.args.part c.args.entry.now c.loop-next.next (omega (arith, c.loop-next-test.false, to))) c.loop-next.invariant.left)

pub returns-clause-entered : goal.returns-clause-entered
returns-clause-entered c = (last c).0

pub returns-clause-counted : goal.returns-clause-counted
returns-clause-counted c = (last c).1
