use Rattle.std.proofs.Common.{◌≡◌, ◌++◌, drop}
use Rattle.bm_levels.specs.IndexedLevels.{indexed_slots}
use Rattle.bm_queries.specs.ListedElements.{wants, listed_on}
use Rattle.bm_queries.proofs.replicas.list_replicas.Given as goal

-- those so far and those of the rest are all
abbrev pub invariant-loop-index : goal.invariant-loop-index
invariant-loop-index l = l.all.items ++ listed_on (wants l.wanted) l.arena (drop l.index (indexed_slots l.arena)) ≡ listed_on (wants l.wanted) l.arena (indexed_slots l.arena)
