use Rattle.std.proofs.Common.{◌∙◌}
use Rattle.std.proofs.lemmas.Result.{on_ok_weaker}
use Rattle.fsck_import.proofs.RowLemmas.{reports_written}
use Rattle.fsck_import.proofs.line_writer.write_row.Goals as goal

pub returns-clause-written : goal.returns-clause-written
returns-clause-written g c =
    on_ok_weaker c.write_received.result (λ w.
    reports_written c.args.row.now c.from_vec.result c.split_at_report_limit.result.0.now c.split_at_report_limit.result.1.now c.as_slice.result.now _ _ _
    (c.from_vec.ensures ∙ c.in_ok-entries_of.ensures) c.split_at_report_limit.ensures.first c.split_at_report_limit.ensures.others c.as_slice.ensures
    c.in_ok-write_call.ensures.written w) c.write_received.ensures.written
