use Rattle.laws_of_rounds.proofs.Needs.{level_unknown}
use Rattle.laws_of_rounds.proofs.levels.unknown_block_has_no_level.Goals as goal

pub returns : goal.returns
returns c = level_unknown
