use Rattle.std.proofs.Common.{◌≡◌, ◌++◌}
use Rattle.callers.proofs.slots.in_order.Given as goal

-- the slots so far, followed by the remaining ones, are all slots
abbrev pub invariant-loop-slot : goal.invariant-loop-slot
invariant-loop-slot l = l.found.items ++ l.slot-iterator ≡ l.set.slots
