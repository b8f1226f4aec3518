use Rattle.std.proofs.Common.{◌-◌, ◌^◌}
use Rattle.cluster_lost.proofs.PassLemmas.{counted_within, finished_passed}
use Rattle.cluster_lost.proofs.block_pass.BlockPass.finish.Goals as goal

pub returns-clause-whole : goal.returns-clause-whole
returns-clause-whole c = λ M row_of n excess known was.
    finished_passed M row_of n excess c.args.info c.args.self.now c.finish_block.new.self known c.in_ok-finish_block.ensures was

pub returns-clause-within : goal.returns-clause-within
returns-clause-within c =
    counted_within (2 ^ 59 - 1) c.args.info c.args.self.now c.finish_block.new.self c.requires.few c.in_ok-finish_block.ensures.counted c.requires.small
