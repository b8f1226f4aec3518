use Rattle.laws_of_rounds.proofs.TransferLaws.{few_commanded}
use Rattle.laws_of_rounds.proofs.transfers.at_most_work_times_nodes.Goals as goal

pub returns : goal.returns
returns c = few_commanded
