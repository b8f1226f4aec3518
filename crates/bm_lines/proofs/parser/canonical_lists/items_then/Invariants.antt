use Rattle.std.proofs.Common.{◌≡◌, ◌++◌, ◌<◌, All, length}
use Rattle.bm_lines.specs.CallText.{with_commas}
use Rattle.bm_lines.proofs.parser.canonical_lists.items_then.Given as goal

-- the items so far, at least one, and the rest of the text
abbrev pub invariant-loop-next : goal.invariant-loop-next
invariant-loop-next g l = record {
  text : l.list ≡ with_commas g.T.CanonicalItem.written l.items.items ++ l.rest;
  fits : All g.T.CanonicalItem.is_fit l.items.items;
  some : 0 < length l.items.items;
}

abbrev pub decreases-loop-next : goal.decreases-loop-next
decreases-loop-next g l = length l.rest
