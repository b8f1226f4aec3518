use Rattle.std.proofs.Common.{◌+◌, List, length, drop, refl, subst}
use Rattle.std.proofs.lemmas.Option.{slice_get_read}
use Rattle.bm_base.specs.Machine.Entries.{ReportedBlock, blocks_of_entry, expanded}
use Rattle.bm_report.specs.ReportedBlocks.{of_part, reported_to_part}
use Rattle.bm_report.specs.Ready.{named_of}
use Rattle.bm_report.specs.DuringReport.{IsEntered, IsCounted}
use Rattle.bm_report.proofs.NumberRuns.{reported_rest, reported_out}
use Rattle.bm_report.proofs.ByNumber.{IsLeft, left-first, left-can, left-next, left-last}
use Rattle.bm_report.proofs.uncached_numbers.add_reported_entries.Goals as goal

pub loop-entry-init : goal.loop-entry-init
loop-entry-init c = left-first c.args.topology.now.cluster c.args.storage (reported_to_part c.args.part c.args.entries.now) c.args.arena.now c.args.tally.now c.requires.set

pub add_run-requires-clause-set : goal.add_run-requires-clause-set
add_run-requires-clause-set c =
    let P : List ReportedBlock → Type 0 = λ l. IsLeft c.args.topology.now.cluster c.args.storage (reported_to_part c.args.part c.args.entries.now) c.args.arena.now c.args.tally.now l c.loop-entry.arena c.loop-entry.tally in
    left-can c.args.topology.now.cluster c.args.storage (reported_to_part c.args.part c.args.entries.now) c.args.arena.now c.args.tally.now (of_part c.args.part (blocks_of_entry c.entry-item.result)) (of_part c.args.part (expanded (drop (c.loop-entry.entry-index + 1) c.args.entries.now))) c.loop-entry.arena c.loop-entry.tally (subst P (reported_rest c.args.part c.args.entries.now c.loop-entry.entry-index c.entry-item.result (slice_get_read c.args.entries.now (length c.args.entries.now) c.loop-entry.entry-index c.entry-item.result refl c.loop-entry-test.true c.entry-item.is)) c.loop-entry.invariant)

pub loop-entry-preserved : goal.loop-entry-preserved
loop-entry-preserved c =
    let P : List ReportedBlock → Type 0 = λ l. IsLeft c.args.topology.now.cluster c.args.storage (reported_to_part c.args.part c.args.entries.now) c.args.arena.now c.args.tally.now l c.loop-entry.arena c.loop-entry.tally in
    left-next c.args.topology.now.cluster c.args.storage (reported_to_part c.args.part c.args.entries.now) c.args.arena.now c.args.tally.now (of_part c.args.part (blocks_of_entry c.entry-item.result)) (of_part c.args.part (expanded (drop (c.loop-entry.entry-index + 1) c.args.entries.now))) c.loop-entry.arena c.add_run.new.arena c.loop-entry.tally c.add_run.new.tally
    (subst P (reported_rest c.args.part c.args.entries.now c.loop-entry.entry-index c.entry-item.result (slice_get_read c.args.entries.now (length c.args.entries.now) c.loop-entry.entry-index c.entry-item.result refl c.loop-entry-test.true c.entry-item.is)) c.loop-entry.invariant) c.add_run.ensures.entered c.add_run.ensures.counted

last : (c : goal.After-loop-entry) → IsEntered c.args.topology.now.cluster c.args.storage (named_of c.args.arena.now (reported_to_part c.args.part c.args.entries.now)) c.args.arena.now c.loop-entry.arena
    × IsCounted c.args.topology.now.cluster c.args.storage (named_of c.args.arena.now (reported_to_part c.args.part c.args.entries.now)) c.args.arena.now c.loop-entry.arena c.args.tally.now c.loop-entry.tally
last c =
    let P : List ReportedBlock → Type 0 = λ l. IsLeft c.args.topology.now.cluster c.args.storage (reported_to_part c.args.part c.args.entries.now) c.args.arena.now c.args.tally.now l c.loop-entry.arena c.loop-entry.tally in
    left-last c.args.topology.now.cluster c.args.storage (reported_to_part c.args.part c.args.entries.now) c.args.arena.now c.args.tally.now c.loop-entry.arena c.loop-entry.tally (subst P (reported_out c.args.part c.args.entries.now c.loop-entry.entry-index c.loop-entry-test.false) c.loop-entry.invariant)

pub returns-clause-entered : goal.returns-clause-entered
returns-clause-entered c = (last c).0

pub returns-clause-counted : goal.returns-clause-counted
returns-clause-counted c = (last c).1
