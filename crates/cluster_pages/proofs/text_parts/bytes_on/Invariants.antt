use Rattle.std.proofs.Common.{◌≡◌, take}
use Rattle.cluster_pages.specs.Text.{bytes_on}
use Rattle.cluster_pages.proofs.text_parts.bytes_on.Given as goal

abbrev pub invariant-loop-row : goal.invariant-loop-row
invariant-loop-row l = l.total ≡ bytes_on (take l.row-index l.rows)
