use Rattle.std.proofs.Common.{◌∙◌}
use Rattle.cluster_lost.proofs.LostBlocks.{newly_missing}
use Rattle.cluster_lost.proofs.lost_blocks.Goals as goal

pub returns : goal.returns
returns c = λ M es h. c.from_vec.ensures ∙ c.in_ok-lost.ensures ∙ newly_missing M es c.args.before.now c.args.after.now h c.in_ok-known.known.map c.in_ok-known.ensures
