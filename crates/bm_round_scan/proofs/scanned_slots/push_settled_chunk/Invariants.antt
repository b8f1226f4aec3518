use Rattle.std.proofs.Common.{◌≡◌, ◌++◌, map, filter, drop}
use Rattle.bm_round_scan.specs.ScannedSlots.{keyed_at, is_settled_to_scan, has_enough_pending}
use Rattle.bm_round_scan.proofs.scanned_slots.push_settled_chunk.Given as goal

-- those so far and the passing ones of the rest are all
abbrev pub invariant-loop-index : goal.invariant-loop-index
invariant-loop-index l =
    let s = l.start in
    let to_scan = is_settled_to_scan l.start.level_index.now s.arena.now s.bound (has_enough_pending s.topology.now.cluster s.pend s.round s.arena.now s.pending.now) in
    l.into.items ++ map (keyed_at l.start.level_index.now s.arena.now) (filter to_scan (drop l.index l.chunk))
    ≡ l.initial.into.items ++ map (keyed_at l.start.level_index.now s.arena.now) (filter to_scan l.chunk)
