use Rattle.laws_of_rounds.proofs.Needs.{raised}
use Rattle.laws_of_rounds.proofs.levels.raised_replication_is_no_less_need.Goals as goal

pub returns : goal.returns
returns c = raised
