use Rattle.std.proofs.Common.{◌∙◌}
use Rattle.std.proofs.lemmas.Result.{on_ok_weaker}
use Rattle.cluster_input.proofs.MakeLemmas.{reports_made}
use Rattle.cluster_input.proofs.calls.make_row.Goals as goal

pub returns-clause-made : goal.returns-clause-made
returns-clause-made g c =
    on_ok_weaker c.make_received.result (λ w.
    reports_made c.args.row.now c.from_vec.result c.split_at_report_limit.result.0.now c.split_at_report_limit.result.1.now c.as_slice.result.now _ _ _
    (c.from_vec.ensures ∙ c.in_ok-entries_of.ensures) c.split_at_report_limit.ensures.first c.split_at_report_limit.ensures.others c.as_slice.ensures
    c.in_ok-make_call.ensures.made w) c.make_received.ensures.made
