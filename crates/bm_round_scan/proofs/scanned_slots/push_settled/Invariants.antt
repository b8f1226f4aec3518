use Rattle.std.proofs.Common.{◌≡◌, ℕ, Some, ◌++◌, map, filter}
use Rattle.std.specs.Slice.Iter.{chunks_rest}
use Rattle.bm_maps.specs.SlotLists.{IsMember}
use Rattle.bm_levels.specs.IndexedLevels.{level_of_slot}
use Rattle.bm_round_scan.specs.ScannedSlots.{keyed_at, is_settled_to_scan, has_enough_pending}
use Rattle.bm_round_scan.proofs.scanned_slots.push_settled.Given as goal

-- those so far and the passing ones of the rest are all, and the rest are at the level
abbrev pub invariant-loop-chunk : goal.invariant-loop-chunk
invariant-loop-chunk l =
    let s = l.start in
    let left = chunks_rest l.chunk-iterator in
    let to_scan = is_settled_to_scan l.start.level_index.now s.arena.now s.bound (has_enough_pending s.topology.now.cluster s.pend s.round s.arena.now s.pending.now) in
    record {
      finite : goal.iterator-loop-chunk.is_finite l.chunk-iterator;
      level : (slot : ℕ) → IsMember slot left → level_of_slot l.start.level_index.now slot ≡ Some l.level;
      all : l.into.items ++ map (keyed_at l.start.level_index.now s.arena.now) (filter to_scan left)
          ≡ l.initial.into.items ++ map (keyed_at l.start.level_index.now s.arena.now) (filter to_scan l.slots);
    }
