use Rattle.laws_of_rounds.proofs.DrainingNodes.{drained_first}
use Rattle.laws_of_rounds.proofs.transfers.drained_source_goes_first.Goals as goal

pub returns : goal.returns
returns c = drained_first
