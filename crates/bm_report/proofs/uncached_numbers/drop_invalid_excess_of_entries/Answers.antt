use Rattle.std.proofs.Common.{◌+◌, List, length, drop, refl, subst}
use Rattle.std.proofs.lemmas.Option.{slice_get_read}
use Rattle.bm_base.specs.Machine.Entries.{ReportedBlock, blocks_of_entry, expanded}
use Rattle.bm_report.specs.ReportedBlocks.{of_part, reported_to_part}
use Rattle.bm_report.proofs.NumberRuns.{reported_rest, reported_out}
use Rattle.bm_report.proofs.ByNumber.{HasExcessToDrop, to_drop-first, to_drop-here, to_drop-next, to_drop-last}
use Rattle.bm_report.proofs.uncached_numbers.drop_invalid_excess_of_entries.Goals as goal

pub loop-entry-init : goal.loop-entry-init
loop-entry-init c = to_drop-first c.args.storage (reported_to_part c.args.part c.args.entries.now) c.args.arena.now c.requires.here

pub drop_invalid_excess_of_run-requires-clause-here : goal.drop_invalid_excess_of_run-requires-clause-here
drop_invalid_excess_of_run-requires-clause-here c =
    let P : List ReportedBlock → Type 0 = λ l. HasExcessToDrop c.args.storage (reported_to_part c.args.part c.args.entries.now) c.args.arena.now l c.loop-entry.arena in
    to_drop-here c.args.storage (reported_to_part c.args.part c.args.entries.now) c.args.arena.now (of_part c.args.part (blocks_of_entry c.entry-item.result)) (of_part c.args.part (expanded (drop (c.loop-entry.entry-index + 1) c.args.entries.now))) c.loop-entry.arena (subst P (reported_rest c.args.part c.args.entries.now c.loop-entry.entry-index c.entry-item.result (slice_get_read c.args.entries.now (length c.args.entries.now) c.loop-entry.entry-index c.entry-item.result refl c.loop-entry-test.true c.entry-item.is)) c.loop-entry.invariant)

pub loop-entry-preserved : goal.loop-entry-preserved
loop-entry-preserved c =
    let P : List ReportedBlock → Type 0 = λ l. HasExcessToDrop c.args.storage (reported_to_part c.args.part c.args.entries.now) c.args.arena.now l c.loop-entry.arena in
    to_drop-next c.args.storage (reported_to_part c.args.part c.args.entries.now) c.args.arena.now (of_part c.args.part (blocks_of_entry c.entry-item.result)) (of_part c.args.part (expanded (drop (c.loop-entry.entry-index + 1) c.args.entries.now))) c.loop-entry.arena c.drop_invalid_excess_of_run.new.arena (subst P (reported_rest c.args.part c.args.entries.now c.loop-entry.entry-index c.entry-item.result (slice_get_read c.args.entries.now (length c.args.entries.now) c.loop-entry.entry-index c.entry-item.result refl c.loop-entry-test.true c.entry-item.is)) c.loop-entry.invariant) c.drop_invalid_excess_of_run.ensures

pub returns : goal.returns
returns c =
    let P : List ReportedBlock → Type 0 = λ l. HasExcessToDrop c.args.storage (reported_to_part c.args.part c.args.entries.now) c.args.arena.now l c.loop-entry.arena in
    to_drop-last c.args.storage (reported_to_part c.args.part c.args.entries.now) c.args.arena.now c.loop-entry.arena (subst P (reported_out c.args.part c.args.entries.now c.loop-entry.entry-index c.loop-entry-test.false) c.loop-entry.invariant)
