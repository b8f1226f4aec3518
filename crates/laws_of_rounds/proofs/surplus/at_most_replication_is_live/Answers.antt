use Rattle.laws_of_rounds.proofs.DeleteReasons.{at_most}
use Rattle.laws_of_rounds.proofs.surplus.at_most_replication_is_live.Goals as goal

pub returns : goal.returns
returns c = at_most
