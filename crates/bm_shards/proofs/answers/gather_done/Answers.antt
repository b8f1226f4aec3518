use Rattle.std.proofs.Common.{arith, ◌∙◌, ◌∷◌, [], ◌+◌, ap, sym, length, length-append}
use Rattle.std.specs.Prelude.{ℕ}
use Rattle.std.specs.Vec.Iter.{into_iter_items}
use Rattle.std.proofs.lemmas.List.{map_push}
use Rattle.bm_base.specs.declared.event.Done.{Done}
use Rattle.bm_shards.specs.declared.answers.Answered.{Answered}
use Rattle.bm_shards.specs.Answers.{shard_answered, IsFew}
use Rattle.bm_crew.proofs.Zips.{take_one}
use Rattle.bm_shards.proofs.GatheredAnswers.{done_push, first_left}
use Rattle.bm_shards.proofs.answers.gather_done.Goals as goal

pub overflow_add-added : goal.overflow_add-added
overflow_add-added c =
    let inv = c.loop-index.invariant in
    let one : ℕ × Answered Done = (c.in-Some.index, c.in-Some.one) in
    let few = first_left IsFew _ _ _ _ one inv.rest c.in-Some.ensures.steps.0 c.requires.few in
    omega (arith, inv.few_added, few.0, inv.count, c.requires.shards, ap length inv.rest, length-append c.loop-index.yielded (into_iter_items c.loop-index.index-iterator))

pub overflow_add-removed : goal.overflow_add-removed
overflow_add-removed c =
    let inv = c.loop-index.invariant in
    let one : ℕ × Answered Done = (c.in-Some.index, c.in-Some.one) in
    let few = first_left IsFew _ _ _ _ one inv.rest c.in-Some.ensures.steps.0 c.requires.few in
    omega (arith, inv.few_removed, few.1, inv.count, c.requires.shards, ap length inv.rest, length-append c.loop-index.yielded (into_iter_items c.loop-index.index-iterator))

pub loop-index-preserved : goal.loop-index-preserved
loop-index-preserved c = let inv = c.loop-index.invariant in let one : ℕ × Answered Done = (c.in-Some.index, c.in-Some.one) in
    let few = first_left IsFew _ _ _ _ one inv.rest c.in-Some.ensures.steps.0 c.requires.few in
    let more = done_push c.loop-index.yielded one in
    let long = length-append c.loop-index.yielded (one ∷ []) in record {
      rest = take_one _ _ _ _ _ inv.rest c.in-Some.ensures.steps.0;
      shards = c.push_reserved.ensures.items ∙ rw inv.shards (sym (map_push shard_answered c.loop-index.yielded one));
      added = ap (λ n. n + c.in-Some.one.answer.added) inv.added ∙ sym more.0;
      removed = ap (λ n. n + c.in-Some.one.answer.removed) inv.removed ∙ sym more.1;
      few_added = omega (arith, inv.few_added, long, few.0);
      few_removed = omega (arith, inv.few_removed, long, few.1);
      count = omega (arith, inv.count, long, c.push_reserved.ensures.len);
      capacity = omega (arith, inv.capacity, c.push_reserved.ensures.capacity);
    }
