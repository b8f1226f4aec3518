-- A report whose fields all equal those of the defined report on a state is that report.
use Rattle.std.proofs.Common.{◌≡◌}
use Rattle.bm_base.specs.Machine.State.{State}
use Rattle.cluster_report.specs.Reports.{report_of}
use Rattle.cluster_report.specs.declared.report.Report.{Report}

pub report_is : (M : State) (r : Report) → r.calls ≡ M.calls → r.round ≡ M.round → r.nodes ≡ (report_of M).nodes → r.levels ≡ (report_of M).levels
    → r.level_bytes ≡ (report_of M).level_bytes → r.tags ≡ (report_of M).tags → r.tag_bytes ≡ (report_of M).tag_bytes → r.excess ≡ (report_of M).excess
    → r.transfers ≡ (report_of M).transfers → r.missing ≡ (report_of M).missing → r.urgent ≡ (report_of M).urgent → r ≡ report_of M
report_is M r calls round nodes levels level_bytes tags tag_bytes excess transfers missing urgent = λ i. record {
  calls = calls i;
  round = round i;
  nodes = nodes i;
  levels = levels i;
  level_bytes = level_bytes i;
  tags = tags i;
  tag_bytes = tag_bytes i;
  excess = excess i;
  transfers = transfers i;
  missing = missing i;
  urgent = urgent i;
}
