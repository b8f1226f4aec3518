use Rattle.laws_of_rounds.proofs.OrderedDeletes.{done_reached}
use Rattle.laws_of_rounds.proofs.deletes.ordered_replica_is_not_usable.Goals as goal

pub returns : goal.returns
returns c = done_reached
