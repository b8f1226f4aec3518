use Rattle.laws_of_rounds.proofs.TransferLaws.{fresh_node}
use Rattle.laws_of_rounds.proofs.transfers.target_is_on_fresh_node.Goals as goal

pub returns : goal.returns
returns c = fresh_node
