use Rattle.std.proofs.Common.{◌≤◌, ◌↔◌, ℕ, take}
use Rattle.bm_maps.specs.SlotLists.{IsMember}
use Rattle.callers.proofs.slots.note_slots.Given as goal

-- the slots so far are the members
abbrev pub invariant-loop-slot : goal.invariant-loop-slot
invariant-loop-slot l = (l.bound ≤ l.set.capacity) × ((slot : ℕ) → IsMember slot l.set.slots ↔ IsMember slot (take l.slot-index l.slots))
