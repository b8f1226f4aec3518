use Rattle.std.proofs.Common.{append_assoc}
use Rattle.cluster_what_if.specs.RepairText.{model_line}
use Rattle.cluster_what_if.proofs.repair_text.write_model.Goals as goal

pub returns : goal.returns
unfolding model_line
returns c = simp append_assoc at (rw c.in_ok-write.ensures.bytes at c.write-2.ensures.bytes)
