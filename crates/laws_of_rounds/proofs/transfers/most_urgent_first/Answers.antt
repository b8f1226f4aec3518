use Rattle.laws_of_rounds.proofs.Urgency.{urgent_first}
use Rattle.laws_of_rounds.proofs.transfers.most_urgent_first.Goals as goal

pub returns : goal.returns
returns c = urgent_first
