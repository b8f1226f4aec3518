use Rattle.laws_of_events.proofs.DrainLaws.{others_leave}
use Rattle.laws_of_events.proofs.draining_nodes.other_events_leave_draining.Goals as goal

pub returns : goal.returns
returns c = others_leave
