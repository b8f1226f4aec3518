use Rattle.std.proofs.Common.{◌≡◌, ◌≤◌, ◌*◌, ◌++◌, length, map, vec_len, vec_capacity}
use Rattle.std.specs.Vec.Iter.{into_iter_items}
use Rattle.bm_shards.specs.Answers.{done_of, shard_answered}
use Rattle.bm_shards.proofs.answers.gather_done.Given as goal

abbrev pub invariant-loop-index : goal.invariant-loop-index
invariant-loop-index l = record {
  rest : l.fn.changed.items ≡ l.yielded ++ into_iter_items l.index-iterator;
  shards : l.back.items ≡ map shard_answered l.yielded;
  added : l.added ≡ (done_of l.yielded).added;
  removed : l.removed ≡ (done_of l.yielded).removed;
  few_added : l.added ≤ 1267650600228229401496703205376 * length l.yielded;
  few_removed : l.removed ≤ 1267650600228229401496703205376 * length l.yielded;
  count : vec_len l.back ≡ length l.yielded;
  capacity : vec_len l.fn.changed ≤ vec_capacity l.back;
}
