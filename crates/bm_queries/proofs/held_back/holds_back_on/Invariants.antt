use Rattle.std.proofs.Common.{◌≡◌, false}
use Rattle.std.specs.List.{list_any}
use Rattle.bm_queries.specs.ListedElements.{holds_back_at}
use Rattle.bm_queries.proofs.held_back.holds_back_on.Given as goal

-- none of the slots so far does
abbrev pub invariant-loop-slot : goal.invariant-loop-slot
invariant-loop-slot l = list_any (holds_back_at l.topology.cluster l.arena l.storage) l.yielded ≡ false
