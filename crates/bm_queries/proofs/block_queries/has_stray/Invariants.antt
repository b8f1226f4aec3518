use Rattle.std.proofs.Common.{◌≡◌, drop}
use Rattle.std.specs.List.{list_any}
use Rattle.bm_base.specs.Machine.Replicas.{is_stray}
use Rattle.bm_arena.specs.HeldMaps.{replicas_at}
use Rattle.bm_queries.proofs.block_queries.has_stray.Given as goal

-- a replica of the rest is stray exactly if one of all is
abbrev pub invariant-loop-index : goal.invariant-loop-index
invariant-loop-index l = list_any (λ r. is_stray r.1.tag) (drop l.index (replicas_at l.arena l.slot)) ≡ list_any (λ r. is_stray r.1.tag) (replicas_at l.arena l.slot)
