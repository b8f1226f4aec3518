use Rattle.std.proofs.Common.{◌∙◌}
use Rattle.bm_lines.proofs.ListLemmas.{remaining_in-items, remaining_in-none}
use Rattle.bm_lines.proofs.parser.items.RemainingItem.from_value.Goals as goal

pub returns-in-Some : goal.returns-in-Some
returns-in-Some c = c.remaining_among.ensures ∙ rw c.as_slice.ensures.value (remaining_in-items _ _ c.in-Some.ensures)

pub returns-in-None : goal.returns-in-None
returns-in-None c = remaining_in-none _ c.in-None.ensures
