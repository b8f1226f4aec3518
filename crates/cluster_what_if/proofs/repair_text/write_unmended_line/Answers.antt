use Rattle.std.proofs.Common.{append_assoc}
use Rattle.cluster_what_if.specs.RepairText.{unmended_line}
use Rattle.cluster_what_if.proofs.repair_text.write_unmended_line.Goals as goal

pub returns : goal.returns
unfolding unmended_line
returns c =
    rw (← c.path_of.ensures, ← c.unmended.view_is, ← c.level_word-level.ensures, ← c.reason_word-reason.ensures)
    (simp append_assoc at (rw c.in_ok-write.ensures.bytes at c.write_end.ensures))
