use Rattle.std.proofs.Common.{◌∙◌}
use Rattle.bm_lines.proofs.ListLemmas.{entry_in-items, entry_in-none}
use Rattle.bm_lines.proofs.parser.items.EntryItem.from_value.Goals as goal

pub returns-in-Some : goal.returns-in-Some
returns-in-Some c = c.entry_among.ensures ∙ rw c.as_slice.ensures.value (entry_in-items _ _ c.in-Some.ensures)

pub returns-in-None : goal.returns-in-None
returns-in-None c = entry_in-none _ c.in-None.ensures
