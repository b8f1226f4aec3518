use Rattle.laws_of_rounds.proofs.RequestedCopies.{no_more_than_lacks}
use Rattle.laws_of_rounds.proofs.transfers.no_more_than_lacks.Goals as goal

pub returns : goal.returns
returns c = no_more_than_lacks
