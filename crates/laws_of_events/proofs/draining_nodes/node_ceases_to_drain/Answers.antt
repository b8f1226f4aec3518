use Rattle.laws_of_events.proofs.DrainLaws.{ceases}
use Rattle.laws_of_events.proofs.draining_nodes.node_ceases_to_drain.Goals as goal

pub returns : goal.returns
returns c = ceases
