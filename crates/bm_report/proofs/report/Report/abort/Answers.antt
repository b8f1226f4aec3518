use Rattle.std.proofs.Common.{◌∙◌, ◌&&◌, cond, None, map, ap}
use Rattle.bm_base.specs.Machine.Events.{is_named}
use Rattle.bm_arena.specs.Contents.{slot_of}
use Rattle.bm_report.specs.Ready.{LookedUpReport}
use Rattle.bm_report.specs.DuringReport.{reported_of}
use Rattle.bm_report.specs.AbortedReport.{is_unused_number}
use Rattle.bm_report.proofs.Aborts.{names_reported}
use Rattle.bm_report.proofs.report.Report.abort.Goals as goal

pub returns-clause-numbers : goal.returns-clause-numbers
returns-clause-numbers c b =
    c.abort_named.ensures.numbers b
    ∙ ap (λ t. cond (t && is_unused_number c.args.arena.now b) None (slot_of c.args.arena.now b))
    (names_reported c.as_slice.result.now b ∙ ap (λ l. is_named (map reported_of l) b) (c.as_slice.ensures.value ∙ ap (λ (r : LookedUpReport). r.named) c.self.view_is))
