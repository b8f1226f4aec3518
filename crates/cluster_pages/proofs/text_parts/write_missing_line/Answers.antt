use Rattle.std.proofs.Common.{append_assoc}
use Rattle.cluster_pages.specs.Text.{missing_line}
use Rattle.cluster_pages.proofs.text_parts.write_missing_line.Goals as goal

pub returns : goal.returns
unfolding missing_line
returns c =
    rw (← c.path_of.ensures, ← c.block.view_is) (simp append_assoc at (rw c.in_ok-write.ensures.bytes at c.write_end.ensures))
