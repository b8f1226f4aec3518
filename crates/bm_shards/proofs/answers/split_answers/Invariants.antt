use Rattle.std.proofs.Common.{◌≡◌, ◌≤◌, ◌++◌, length, map, vec_len, vec_capacity}
use Rattle.std.specs.Result.{result_ok}
use Rattle.std.specs.List.{filter_map}
use Rattle.std.specs.Vec.Iter.{into_iter_items}
use Rattle.bm_shards.specs.Answers.{shard_answered, first_fault}
use Rattle.bm_shards.proofs.answers.split_answers.Given as goal

abbrev pub invariant-loop-index : goal.invariant-loop-index
invariant-loop-index g l = record {
  rest : l.fn.asked.items ≡ l.yielded ++ into_iter_items l.index-iterator;
  shards : l.back.items ≡ map shard_answered l.yielded;
  answers : l.answers.items ≡ filter_map (λ f. result_ok f.1.answer) l.yielded;
  outcome : l.outcome ≡ first_fault l.yielded;
  count : vec_len l.back ≡ length l.yielded;
  few : vec_len l.answers ≤ length l.yielded;
  capacity : vec_len l.fn.asked ≤ vec_capacity l.back;
  capacity_of_answers : vec_len l.fn.asked ≤ vec_capacity l.answers;
}
