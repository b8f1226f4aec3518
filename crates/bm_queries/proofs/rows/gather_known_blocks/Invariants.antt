use Rattle.std.proofs.Common.{◌≡◌, ◌++◌, drop}
use Rattle.bm_levels.specs.IndexedLevels.{indexed_slots}
use Rattle.bm_queries.specs.ListedElements.{known_on}
use Rattle.bm_queries.proofs.rows.gather_known_blocks.Given as goal

-- those so far and those of the rest are all
abbrev pub invariant-loop-index : goal.invariant-loop-index
invariant-loop-index l = l.known.items ++ known_on l.arena (drop l.index (indexed_slots l.arena)) ≡ known_on l.arena (indexed_slots l.arena)
