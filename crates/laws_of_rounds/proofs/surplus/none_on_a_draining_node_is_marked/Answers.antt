use Rattle.laws_of_rounds.proofs.DrainingNodes.{none_marked}
use Rattle.laws_of_rounds.proofs.surplus.none_on_a_draining_node_is_marked.Goals as goal

pub returns : goal.returns
returns c = none_marked
