use Rattle.std.proofs.Common.{◌≡◌, ◌+◌, ◌≤◌, length, drop}
use Rattle.std.specs.List.{position_or_len}
use Rattle.bm_arena.specs.Triplets.{is_of}
use Rattle.bm_arena.proofs.links.first_index_of_many.Given as goal

-- searching from `index` on gives the first index of the storage
abbrev pub invariant-loop-index : goal.invariant-loop-index
invariant-loop-index l =
    record {
      first : l.index + position_or_len (is_of l.storage) (drop l.index l.triplets) ≡ l.first;
      within : l.index ≤ length l.triplets;
    }
