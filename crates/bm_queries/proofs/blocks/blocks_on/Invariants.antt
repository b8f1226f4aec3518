use Rattle.std.proofs.Common.{◌≡◌, map}
use Rattle.bm_arena.specs.HeldMaps.{id_at}
use Rattle.bm_queries.proofs.blocks.blocks_on.Given as goal

abbrev pub invariant-loop-slot : goal.invariant-loop-slot
invariant-loop-slot l = l.ids.items ≡ map (id_at l.arena) l.yielded
