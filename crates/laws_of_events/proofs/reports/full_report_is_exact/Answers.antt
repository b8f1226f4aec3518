use Rattle.laws_of_events.proofs.ReportLaws.{is_exact}
use Rattle.laws_of_events.proofs.reports.full_report_is_exact.Goals as goal

pub returns : goal.returns
returns c = is_exact
