use Rattle.laws_of_events.proofs.ReportLaws.{received_leaves_others}
use Rattle.laws_of_events.proofs.reports.received_leaves_other_nodes.Goals as goal

pub returns : goal.returns
returns c = received_leaves_others
