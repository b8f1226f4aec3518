use Rattle.std.proofs.Common.{◌≡◌, ℕ, map, take}
use Rattle.bm_base.specs.declared.limits.TheConstants.{MAX_PLACES}
use Rattle.bm_base.specs.Words.{Map, by_replica, places}
use Rattle.bm_levels.specs.SlotHoldings.{holdings_with}
use Rattle.bm_queries.proofs.rows.table_rows.Given as goal

-- the rows of the blocks so far
abbrev pub invariant-loop-id : goal.invariant-loop-id
invariant-loop-id l =
    (pending : Map by_replica ℕ) → l.rows.items ≡ map (λ (p : ℕ × ℕ). (p.0, take MAX_PLACES (places (holdings_with l.arena pending) p.0))) (take l.id-index l.id-items)
