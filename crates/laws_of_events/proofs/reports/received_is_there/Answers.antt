use Rattle.laws_of_events.proofs.ReportLaws.{received_there}
use Rattle.laws_of_events.proofs.reports.received_is_there.Goals as goal

pub returns : goal.returns
returns c = received_there
