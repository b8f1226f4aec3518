use Rattle.bm_lines.proofs.ListLemmas.{list_field-items}
use Rattle.bm_lines.proofs.parser.lists.list_field.Goals as goal

pub returns-in-Some : goal.returns-in-Some
returns-in-Some g c = rw (← list_field-items g.T.Item.item_in _ _ _ c.in-Some.ensures, ← c.as_slice.ensures.value) c.items_of.ensures
