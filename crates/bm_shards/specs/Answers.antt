-- The answers of shards that were processed one by one, each with its index, and the gathered
-- answers.
use Rattle.std.specs.Prelude.{◌≡◌, ℕ, ◌+◌, ◌<◌, ◌^◌, List, [], ◌∷◌, map, Result, Ok, Err, IfOk, IfErr, Vec}
use Rattle.std.specs.Result.{result_and}
use Rattle.std.specs.List.{AllZip}
use Rattle.bm_base.specs.declared.event.Done.{Done}
use Rattle.bm_base.specs.declared.refusal.Refusal.{Refusal}
use Rattle.bm_base.specs.declared.refusal.Refusal.TheVariants.{Memory}
use Rattle.bm_crew.specs.Work.{IsResultOf}
use Rattle.bm_shard.specs.ShardView.{Seen}
use Rattle.bm_shards.specs.declared.answers.Answered.{Answered}

-- each shard keeps its index, and R holds of the shard and its result
abbrev pub EachBecame : {U : Type 0} → (Seen → U → Type 0) → List (ℕ × Seen) → List (ℕ × U) → Type 0
EachBecame R ss us = AllZip (IsResultOf (λ _. R)) ss us

-- a shard that answered, or refused
abbrev pub ShardResult : Type 0 → Type 0
ShardResult A = Answered (Result A Refusal)

-- the same shard, with its answer, or out of memory
pub record HasAnswered {A : Type 0} (f : Seen → A) (S : Seen) (made : ShardResult A) : Type 0 where
  pub shard : made.shard ≡ S
  pub answer : IfOk made.answer (λ a. a ≡ f S)
  pub refused : IfErr made.answer (λ e. e ≡ Memory)

-- the answers of shards, if each answers f of itself
abbrev pub each_answer : {A : Type 0} → (Seen → A) → List (ℕ × Seen) → List A
each_answer f ss = map (λ s. f s.1) ss

-- the results of shards that were each asked for f of themselves: unchanged shards with all their
-- answers, or out of memory
pub record HasGathered {A G : Type 0} (f : Seen → A) (ss : List (ℕ × Seen)) (back : List (ℕ × Seen)) (made : Result (Vec A G) Refusal) : Type 0 where
  pub shards : back ≡ ss
  pub answers : IfOk made (λ v. v.items ≡ each_answer f ss)
  pub refused : IfErr made (λ e. e ≡ Memory)

abbrev pub shard_answered : {A : Type 0} → ℕ × Answered A → ℕ × Seen
shard_answered f = (f.0, f.1.shard)

abbrev pub fault_in : {A : Type 0} → Result A Refusal → Result (Unit {0}) Refusal
fault_in (Ok a) = Ok tt
fault_in (Err e) = Err e

-- the first refusal
abbrev pub first_fault : {A : Type 0} → List (ℕ × ShardResult A) → Result (Unit {0}) Refusal
first_fault [] = Ok tt
first_fault (f ∷ fs) = result_and (fault_in f.1.answer) (first_fault fs)

-- the sum of the answers of changed shards
abbrev pub done_of : List (ℕ × Answered Done) → Done
done_of [] = record { added = 0; removed = 0 }
done_of (c ∷ cs) = record { added = c.1.answer.added + (done_of cs).added; removed = c.1.answer.removed + (done_of cs).removed }

-- small enough that the answers of 64 shards can be added up
abbrev pub IsFew : ℕ × Answered Done → Type 0
IsFew c = (c.1.answer.added < 2 ^ 100) × (c.1.answer.removed < 2 ^ 100)
