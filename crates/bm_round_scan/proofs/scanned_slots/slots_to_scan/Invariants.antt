use Rattle.std.proofs.Common.{◌≡◌, ◌++◌, map}
use Rattle.bm_round_scan.specs.ScannedSlots.{keyed_at}
use Rattle.bm_round_scan.proofs.scanned_slots.slots_to_scan.Given as goal

-- those so far and the rest are all
abbrev pub invariant-loop-slot : goal.invariant-loop-slot
invariant-loop-slot l = l.keyed.items ++ map (keyed_at l.start.level_index.now l.start.arena.now) l.slot-iterator ≡ map (keyed_at l.start.level_index.now l.start.arena.now) l.start.level_index.now.unsettled.slots
