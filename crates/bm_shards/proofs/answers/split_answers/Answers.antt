use Rattle.std.specs.Prelude.{◌≡◌, ℕ, map, filter_map}
use Rattle.std.specs.Result.{result_and, result_ok}
use Rattle.std.specs.List.{cons_option}
use Rattle.std.specs.Vec.Iter.{into_iter_items}
use Rattle.std.proofs.Common.{arith, ◌∙◌, ◌∷◌, [], ◌++◌, length, ap, sym, length-append}
use Rattle.std.proofs.lemmas.List.{map_push}
use Rattle.bm_shards.specs.Answers.{ShardResult, shard_answered, first_fault}
use Rattle.bm_crew.proofs.Zips.{take_one, none_left}
use Rattle.bm_shards.proofs.GatheredAnswers.{fault_push, answers_push}
use Rattle.bm_shards.proofs.answers.split_answers.Goals as goal

pub loop-index-preserved : goal.loop-index-preserved
loop-index-preserved g c =
    let inv = c.loop-index.invariant in
    let one : ℕ × ShardResult _ = (c.in-Some.index, c.in-Some.one) in
    record {
      rest = take_one _ _ _ _ _ inv.rest c.in-Some.ensures.steps.0;
      shards = c.push_reserved.ensures.items ∙ rw inv.shards (sym (map_push shard_answered c.loop-index.yielded one));
      answers = c.put_answer.ensures.answers ∙ ap (λ xs. xs ++ cons_option (result_ok one.1.answer) []) inv.answers ∙ sym (answers_push c.loop-index.yielded one);
      outcome = c.first_refusal-outcome.ensures ∙ (λ j. result_and (inv.outcome j) (c.put_answer.ensures.outcome j)) ∙ sym (fault_push c.loop-index.yielded one);
      count = omega (arith, inv.count, length-append c.loop-index.yielded (one ∷ []), c.push_reserved.ensures.len);
      few = omega (arith, inv.few, length-append c.loop-index.yielded (one ∷ []), c.put_answer.ensures.len);
      capacity = omega (arith, inv.capacity, c.push_reserved.ensures.capacity);
      capacity_of_answers = omega (arith, inv.capacity_of_answers, c.put_answer.ensures.capacity);
    }

-- a shard is left, so there is capacity for it
pub push_reserved-requires : goal.push_reserved-requires
push_reserved-requires g c =
    let inv = c.loop-index.invariant in
    omega (arith, inv.count, inv.capacity, ap length inv.rest, length-append c.loop-index.yielded (into_iter_items c.loop-index.index-iterator), ap length c.in-Some.ensures.steps.0)

pub put_answer-requires : goal.put_answer-requires
put_answer-requires g c =
    let inv = c.loop-index.invariant in record {
      capacity = omega (arith, inv.few, inv.capacity_of_answers, ap length inv.rest, length-append c.loop-index.yielded (into_iter_items c.loop-index.index-iterator), ap length c.in-Some.ensures.steps.0);
    }

pub returns-clause-shards : goal.returns-clause-shards
returns-clause-shards g c =
    let inv = c.loop-index.invariant in
    let none : length (into_iter_items c.loop-index.index-iterator) ≡ 0 = omega (arith, c.in-None.ensures.steps.0, c.loop-index.index-iterator.rest.ok) in
    inv.shards ∙ ap (map shard_answered) (sym (none_left _ _ _ inv.rest none))

pub returns-clause-answers : goal.returns-clause-answers
returns-clause-answers g c =
    let inv = c.loop-index.invariant in
    let none : length (into_iter_items c.loop-index.index-iterator) ≡ 0 = omega (arith, c.in-None.ensures.steps.0, c.loop-index.index-iterator.rest.ok) in
    inv.answers ∙ ap (filter_map (λ f. result_ok f.1.answer)) (sym (none_left _ _ _ inv.rest none))

pub returns-clause-outcome : goal.returns-clause-outcome
returns-clause-outcome g c =
    let inv = c.loop-index.invariant in
    let none : length (into_iter_items c.loop-index.index-iterator) ≡ 0 = omega (arith, c.in-None.ensures.steps.0, c.loop-index.index-iterator.rest.ok) in
    inv.outcome ∙ ap first_fault (sym (none_left _ _ _ inv.rest none))
