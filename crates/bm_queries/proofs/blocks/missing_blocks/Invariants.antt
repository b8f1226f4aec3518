use Rattle.std.proofs.Common.{◌≡◌, map, take}
use Rattle.bm_arena.specs.HeldMaps.{id_at}
use Rattle.bm_queries.proofs.blocks.missing_blocks.Given as goal

abbrev pub invariant-loop-slot : goal.invariant-loop-slot
invariant-loop-slot l = l.ids.items ≡ map (id_at l.arena) (take l.slot-index l.slots)
