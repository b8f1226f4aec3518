use Rattle.laws_of_repairs.proofs.WatchedBlocks.{count_as_all}
use Rattle.laws_of_repairs.proofs.covering_blocks_count_as_all.Goals as goal

pub returns : goal.returns
returns c = count_as_all
