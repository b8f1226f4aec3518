use Rattle.laws_of_events.proofs.ReportLaws.{last_decides}
use Rattle.laws_of_events.proofs.reports.last_entry_decides.Goals as goal

pub returns : goal.returns
returns c = last_decides
