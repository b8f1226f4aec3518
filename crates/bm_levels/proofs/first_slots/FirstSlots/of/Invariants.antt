use Rattle.std.proofs.Common.{◌≡◌, ◌≤◌, ◌<◌, ◌++◌, length}
use Rattle.bm_arena.specs.Contents.{list_of}
use Rattle.bm_levels.proofs.first_slots.FirstSlots.of.Given as goal

-- the list is the slots read so far and the rest of the walk
abbrev pub invariant-loop-index : goal.invariant-loop-index
invariant-loop-index l =
    record {
      whole : list_of l.arena l.fn.storage ≡ l.first ++ l.walk;
      few : length l.first ≤ l._index;
      some : 0 < l._index → 0 < length (list_of l.arena l.fn.storage) → 0 < length l.first;
    }
