use Rattle.laws_of_events.proofs.ReportLaws.{report_leaves_others}
use Rattle.laws_of_events.proofs.reports.report_leaves_other_nodes.Goals as goal

pub returns : goal.returns
returns c = report_leaves_others
