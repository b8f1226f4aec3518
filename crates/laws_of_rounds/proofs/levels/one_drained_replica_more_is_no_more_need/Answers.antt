use Rattle.laws_of_rounds.proofs.Needs.{one_drained_more}
use Rattle.laws_of_rounds.proofs.levels.one_drained_replica_more_is_no_more_need.Goals as goal

pub returns : goal.returns
returns c = one_drained_more
