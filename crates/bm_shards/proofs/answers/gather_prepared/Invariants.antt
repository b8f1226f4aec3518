use Rattle.std.proofs.Common.{◌≡◌, ◌≤◌, ◌++◌, length, map, vec_len, vec_capacity}
use Rattle.std.specs.Vec.Iter.{into_iter_items}
use Rattle.bm_shards.specs.Answers.{shard_answered, first_fault}
use Rattle.bm_shards.proofs.answers.gather_prepared.Given as goal

abbrev pub invariant-loop-index : goal.invariant-loop-index
invariant-loop-index l = record {
  rest : l.fn.prepared.items ≡ l.yielded ++ into_iter_items l.index-iterator;
  shards : l.back.items ≡ map shard_answered l.yielded;
  outcome : l.outcome ≡ first_fault l.yielded;
  count : vec_len l.back ≡ length l.yielded;
  capacity : vec_len l.fn.prepared ≤ vec_capacity l.back;
}
