use Rattle.std.proofs.Common.{arith, ◌∙◌, ◌∷◌, [], sym, length-append}
use Rattle.std.specs.Result.{result_and}
use Rattle.std.specs.Prelude.{ℕ}
use Rattle.std.proofs.lemmas.List.{map_push}
use Rattle.bm_shards.specs.Answers.{ShardResult, shard_answered}
use Rattle.bm_crew.proofs.Zips.{take_one}
use Rattle.bm_shards.proofs.GatheredAnswers.{fault_push, fault_alone}
use Rattle.bm_shards.proofs.answers.gather_prepared.Goals as goal

pub loop-index-preserved : goal.loop-index-preserved
loop-index-preserved c = let inv = c.loop-index.invariant in let one : ℕ × ShardResult (Unit {0}) = (c.in-Some.index, c.in-Some.one) in record {
  rest = take_one _ _ _ _ _ inv.rest c.in-Some.ensures.steps.0;
  shards = c.push_reserved.ensures.items ∙ rw inv.shards (sym (map_push shard_answered c.loop-index.yielded one));
  outcome = c.first_refusal-outcome.ensures ∙ (λ j. result_and (inv.outcome j) (sym (fault_alone c.in-Some.one.answer) j)) ∙ sym (fault_push c.loop-index.yielded one);
  count = omega (arith, inv.count, length-append c.loop-index.yielded (one ∷ []), c.push_reserved.ensures.len);
  capacity = omega (arith, inv.capacity, c.push_reserved.ensures.capacity);
}
