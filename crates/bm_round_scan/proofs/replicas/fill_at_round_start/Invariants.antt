use Rattle.std.proofs.Common.{◌≡◌, ◌++◌, drop}
use Rattle.bm_arena.specs.HeldMaps.{replicas_at}
use Rattle.bm_round_scan.specs.BlockMarks.{excess_reset}
use Rattle.bm_round_scan.proofs.replicas.fill_at_round_start.Given as goal

-- those so far and the rest are all
abbrev pub invariant-loop-at : goal.invariant-loop-at
invariant-loop-at l = l.into.items ++ excess_reset (drop l.at (replicas_at l.arena l.slot)) ≡ excess_reset (replicas_at l.arena l.slot)
