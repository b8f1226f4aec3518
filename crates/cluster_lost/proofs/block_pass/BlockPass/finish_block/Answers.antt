use Rattle.std.proofs.Common.{◌-◌, ◌^◌, arith}
use Rattle.cluster_lost.proofs.RowLemmas.{within_larger}
use Rattle.cluster_lost.proofs.block_pass.BlockPass.finish_block.Goals as goal

pub add-requires-clause-small : goal.add-requires-clause-small
add-requires-clause-small c = within_larger (2 ^ 59 - 1) (2 ^ 59) c.args.self.now.all (omega arith) c.requires.small.all
