use Rattle.laws_of_rounds.proofs.NodeGroups.{few_a_node}
use Rattle.laws_of_rounds.proofs.deletes.at_most_invalidate_a_node.Goals as goal

pub returns : goal.returns
returns c = few_a_node
