use Rattle.std.proofs.Common.{◌≡◌, ◌++◌, drop}
use Rattle.bm_arena.specs.HeldMaps.{replicas_at}
use Rattle.bm_queries.specs.ListedElements.{wants}
use Rattle.bm_queries.proofs.GatheredReplicas.{those}
use Rattle.bm_queries.proofs.replicas.push_replicas.Given as goal

-- those so far and those of the rest are all
abbrev pub invariant-loop-index : goal.invariant-loop-index
invariant-loop-index l =
    l.into.items ++ those (wants l.wanted) l.block (drop l.index (replicas_at l.arena l.slot)) ≡ l.fn.into.items ++ those (wants l.wanted) l.block (replicas_at l.arena l.slot)
