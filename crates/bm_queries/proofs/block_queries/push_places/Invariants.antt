use Rattle.std.proofs.Common.{◌≡◌, ◌++◌, drop}
use Rattle.bm_base.specs.Machine.Replicas.{is_good}
use Rattle.bm_arena.specs.HeldMaps.{replicas_at}
use Rattle.bm_levels.specs.Status.{storages_at}
use Rattle.bm_queries.proofs.block_queries.push_places.Given as goal

-- those so far and those of the rest are all
abbrev pub invariant-loop-index : goal.invariant-loop-index
invariant-loop-index l =
    l.into.items ++ storages_at (λ _ m. is_good m.tag) (drop l.index (replicas_at l.arena l.slot)) ≡ l.fn.into.items ++ storages_at (λ _ m. is_good m.tag) (replicas_at l.arena l.slot)
