use Rattle.laws_of_rounds.proofs.RequestedCopies.{second_rack}
use Rattle.laws_of_rounds.proofs.transfers.second_rack.Goals as goal

pub returns : goal.returns
returns c = second_rack
