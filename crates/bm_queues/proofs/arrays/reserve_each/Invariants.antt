use Rattle.std.proofs.Common.{◌≡◌, ℕ, length, take}
use Rattle.bm_queues.specs.DenseLevels.{arrays_in, HaveCapacity}
use Rattle.bm_queues.proofs.arrays.reserve_each.Given as goal

abbrev pub invariant-loop-index : goal.invariant-loop-index
invariant-loop-index l = record {
  same : arrays_in l.arrays.items ≡ arrays_in l.initial.arrays.items;
  kept : (bound : ℕ) → HaveCapacity l.initial.arrays.items bound → HaveCapacity l.arrays.items bound;
  made : HaveCapacity (take l.index l.arrays.items) l.capacity;
  count : length l.arrays.items ≡ l.index-end;
}
