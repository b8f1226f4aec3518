use Rattle.laws_of_events.proofs.BlocksAfterReport.{asked_after}
use Rattle.laws_of_events.proofs.reports.report_is_what_is_asked.Goals as goal

pub returns : goal.returns
returns c = asked_after
