use Rattle.std.proofs.Common.{append_assoc}
use Rattle.cluster_pages.proofs.text_parts.write_level_line.Goals as goal

pub returns : goal.returns
returns c =
    rw (← c.path_of.ensures, ← c.block.view_is, ← c.level_word-urgency.ensures)
    (simp append_assoc at (rw c.in_ok-write.ensures.bytes at c.write_end.ensures))
