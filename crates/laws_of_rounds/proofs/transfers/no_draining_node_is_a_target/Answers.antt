use Rattle.laws_of_rounds.proofs.DrainingNodes.{no_target_drains}
use Rattle.laws_of_rounds.proofs.transfers.no_draining_node_is_a_target.Goals as goal

pub returns : goal.returns
returns c = no_target_drains
