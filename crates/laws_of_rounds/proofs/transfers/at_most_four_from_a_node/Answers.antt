use Rattle.laws_of_rounds.proofs.TransferLaws.{four_a_node}
use Rattle.laws_of_rounds.proofs.transfers.at_most_four_from_a_node.Goals as goal

pub returns : goal.returns
returns c = four_a_node
