use Rattle.laws_of_events.proofs.ReportLaws.{second_changes_nothing}
use Rattle.laws_of_events.proofs.reports.second_report_changes_nothing.Goals as goal

pub returns : goal.returns
returns c = second_changes_nothing
