use Rattle.std.proofs.Common.{drop}
use Rattle.bm_levels.proofs.UnlinkedReplicas.{AreUnlinked}
use Rattle.bm_levels.proofs.storage_list.unlink_all.Given as goal

-- the slots so far have left the list
abbrev pub invariant-loop-slot : goal.invariant-loop-slot
invariant-loop-slot l = AreUnlinked l.storage l.slots (drop l.slot-index l.slots) l.initial.arena l.arena l.slot-index
