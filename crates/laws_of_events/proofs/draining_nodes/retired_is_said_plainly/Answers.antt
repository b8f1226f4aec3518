use Rattle.laws_of_events.proofs.RetiredNodes.{said_plainly}
use Rattle.laws_of_events.proofs.draining_nodes.retired_is_said_plainly.Goals as goal

pub returns : goal.returns
returns c = said_plainly
