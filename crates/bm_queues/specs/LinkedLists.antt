-- Definitions for the contracts of `SlotLists`, on which `SlotSet` is built.
use Rattle.std.specs.Prelude.{ℕ, List, length}
use Rattle.bm_queues.specs.declared.slot_lists.SlotLists.{SlotLists}
use Rattle.bm_queues.specs.Links.{list_from, AreLinks}

-- the capacity in slots
abbrev pub capacity_of : SlotLists → ℕ
capacity_of q = length q.previous.items

-- the slots of a list, in order from the front
abbrev pub list_of : SlotLists → ℕ → List ℕ
list_of q l = list_from q.heads q.next.items q.previous.items l

-- the links hold lists
abbrev pub AreLinked : SlotLists → Type 0
AreLinked q = AreLinks q.heads q.next.items q.previous.items
