use Rattle.std.proofs.Common.{◌≡◌, ◌<◌, ℕ, Some, length}
use Rattle.std.specs.Prelude.{slice_get, slice_index_or}
use Rattle.bm_arena.specs.HeldMaps.{id_at}
use Rattle.bm_round_scan.proofs.scanned_slots.read_numbers.Given as goal

-- the number of each block whose entry was read
abbrev pub invariant-loop-index : goal.invariant-loop-index
invariant-loop-index l =
    record {
      whole : length l.numbers ≡ 64;
      read : (i : ℕ) → i < l.index → (slot : ℕ) → slice_get l.chunk i ≡ Some slot → slice_index_or l.numbers i 0 ≡ id_at l.arena slot;
    }
