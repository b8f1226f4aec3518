use Rattle.std.proofs.Common.{◌≡◌, ◌≤◌, ◌++◌, length}
use Rattle.bm_arena.specs.Contents.{list_of}
use Rattle.bm_levels.proofs.four_lists.first_of_four.Given as goal

-- each list is the slots read so far and the rest of its walk
abbrev pub invariant-loop-index : goal.invariant-loop-index
invariant-loop-index l =
    record {
      first : list_of l.arena l.fn.four.first ≡ l.lists.first ++ l.first;
      second : list_of l.arena l.fn.four.second ≡ l.lists.second ++ l.second;
      third : list_of l.arena l.fn.four.third ≡ l.lists.third ++ l.third;
      fourth : list_of l.arena l.fn.four.fourth ≡ l.lists.fourth ++ l.fourth;
      few : (length l.lists.first ≤ l._index) × (length l.lists.second ≤ l._index) × (length l.lists.third ≤ l._index) × (length l.lists.fourth ≤ l._index);
    }
