-- Gathering the answers of shards one by one gives the answers of all, or the first refusal.
use Rattle.std.specs.Prelude.{◌≡◌, ℕ, ◌+◌, List, [], ◌∷◌, ◌++◌, map, Some, Result, Ok, Err, IfOk, IfErr, OnOk, OnErr}
use Rattle.std.specs.Result.{result_and, result_ok}
use Rattle.std.specs.List.{All, AllZip, filter_map, cons_option}
use Rattle.std.proofs.Common.{refl, sym, ap, ◌∙◌, arith, subst}
use Rattle.std.proofs.lemmas.List.Elements.{All-nil, All-cons, All-head, All-tail, filter_map-append}
use Rattle.bm_base.specs.declared.event.Done.{Done}
use Rattle.bm_base.specs.declared.refusal.Refusal.{Refusal}
use Rattle.bm_base.specs.declared.refusal.Refusal.TheVariants.{Memory}
use Rattle.bm_shard.specs.ShardView.{Seen}
use Rattle.bm_shards.specs.Answers.{EachBecame, ShardResult, HasAnswered, shard_answered, fault_in, first_fault, done_of}
use Rattle.bm_shards.specs.ShardWork.{IsSame, IsPrepared}
use Rattle.bm_shards.specs.declared.answers.Answered.{Answered}

pub on_ok : {X E : Type 0} (r : Result X E) (P : Type 0) → P → OnOk r P
on_ok (Ok x) P h = h
on_ok (Err e) P h = tt

pub on_err : {X E : Type 0} (r : Result X E) (P : Type 0) → P → OnErr r P
on_err (Ok x) P h = tt
on_err (Err e) P h = h

-- The step of the loop that gathers one more.

pub done_push : (cs : List (ℕ × Answered Done)) (c : ℕ × Answered Done)
    → ((done_of (cs ++ c ∷ [])).added ≡ (done_of cs).added + c.1.answer.added) × ((done_of (cs ++ c ∷ [])).removed ≡ (done_of cs).removed + c.1.answer.removed)
done_push [] c = (omega arith, omega arith)
done_push (d ∷ cs) c = let rest = done_push cs c in (omega (arith, rest.0), omega (arith, rest.1))

-- the first of the remaining elements has what all elements have
pub first_left : {X : Type 0} (P : X → Type 0) (all taken left rest : List X) (x : X) → all ≡ taken ++ left → left ≡ x ∷ rest → All P all → P x
first_left {X} P all taken left rest x is front h =
    let there : all ≡ taken ++ (x ∷ rest) = is ∙ ap (λ l. taken ++ l) front in
    at taken (subst (All P) there h)
  where
    at : (ys : List X) → All P (ys ++ x ∷ rest) → P x
    at [] h = All-head P x rest h
    at (y ∷ ys) h = at ys (All-tail P y (ys ++ x ∷ rest) h)

or_else_ok : (o : Result (Unit {0}) Refusal) → result_and o (Ok tt) ≡ o
or_else_ok (Ok x) = refl
or_else_ok (Err e) = refl

or_else_again : (a b c : Result (Unit {0}) Refusal) → result_and a (result_and b c) ≡ result_and (result_and a b) c
or_else_again (Ok x) b c = refl
or_else_again (Err e) b c = refl

or_ok : (a b : Result (Unit {0}) Refusal) → result_and a b ≡ Ok tt → (a ≡ Ok tt) × (b ≡ Ok tt)
or_ok (Ok x) b e = (refl, e)
or_ok (Err r) b e = cc

same_err : (a b : Refusal) → ◌≡◌ {A = Result (Unit {0}) Refusal} (Err a) (Err b) → a ≡ b
same_err a b e = cc

pub fault_alone : (o : Result (Unit {0}) Refusal) → fault_in o ≡ o
fault_alone (Ok x) = refl
fault_alone (Err e) = refl

module _ {A : Type 0} where
  pub fault_push : (fs : List (ℕ × ShardResult A)) (f : ℕ × ShardResult A) → first_fault (fs ++ f ∷ []) ≡ result_and (first_fault fs) (fault_in f.1.answer)
  fault_push [] f = or_else_ok (fault_in f.1.answer)
  fault_push (g ∷ fs) f = ap (result_and (fault_in g.1.answer)) (fault_push fs f) ∙ or_else_again (fault_in g.1.answer) (first_fault fs) (fault_in f.1.answer)

  abbrev pub answers_in : List (ℕ × ShardResult A) → List A
  answers_in fs = filter_map (λ (f : ℕ × ShardResult A). result_ok f.1.answer) fs

  pub answers_push : (fs : List (ℕ × ShardResult A)) (f : ℕ × ShardResult A) → answers_in (fs ++ f ∷ []) ≡ answers_in fs ++ cons_option (result_ok f.1.answer) []
  answers_push fs f = filter_map-append (λ (f : ℕ × ShardResult A). result_ok f.1.answer) fs (f ∷ [])

  -- Facts about all answers.

  -- if each refusal is `Memory`, so is the first
  pub memory_refused : (R : Seen → ShardResult A → Type 0) → ((S : Seen) (m : ShardResult A) → R S m → IfErr m.answer (λ e. e ≡ Memory))
      → (ss : List (ℕ × Seen)) (fs : List (ℕ × ShardResult A)) (r : Refusal) → EachBecame R ss fs → first_fault fs ≡ Err r → r ≡ Memory
  memory_refused R by [] [] r each e = cc
  memory_refused R by [] (m ∷ fs) r each e = absurd each
  memory_refused R by (s ∷ ss) [] r each e = absurd each
  memory_refused R by (s ∷ ss) (m ∷ fs) r each e = first m.1.answer (by s.1 m.1 each.0.1) (λ g. memory_refused R by ss fs r each.1 g) e
    where
      first : (o : Result A Refusal) → IfErr o (λ e. e ≡ Memory) → (first_fault fs ≡ Err r → r ≡ Memory) → result_and (fault_in o) (first_fault fs) ≡ Err r → r ≡ Memory
      first (Ok a) h later g = later g
      first (Err x) h later g = sym (same_err x r g) ∙ h

  module _ (f : Seen → A) where
    -- no shard has changed
    pub same_shards : (ss : List (ℕ × Seen)) (fs : List (ℕ × ShardResult A)) → EachBecame (HasAnswered f) ss fs → map shard_answered fs ≡ ss
    same_shards [] [] each = refl
    same_shards [] (m ∷ fs) each = absurd each
    same_shards (s ∷ ss) [] each = absurd each
    same_shards (s ∷ ss) (m ∷ fs) each = λ j. (each.0.0 j, each.0.1.shard j) ∷ same_shards ss fs each.1 j

    answered_ok : (o : Result A Refusal) (n : A) → fault_in o ≡ Ok tt → IfOk o (λ a. a ≡ n) → result_ok o ≡ Some n
    answered_ok (Ok a) n e h = ap Some h
    answered_ok (Err r) n e h = cc

    -- if no shard refused, the answers are those of the shards
    pub all_answers : (ss : List (ℕ × Seen)) (fs : List (ℕ × ShardResult A)) → EachBecame (HasAnswered f) ss fs → first_fault fs ≡ Ok tt → answers_in fs ≡ map (λ (s : ℕ × Seen). f s.1) ss
    all_answers [] [] each fine = refl
    all_answers [] (m ∷ fs) each fine = absurd each
    all_answers (s ∷ ss) [] each fine = absurd each
    all_answers (s ∷ ss) (m ∷ fs) each fine =
        let both = or_ok (fault_in m.1.answer) (first_fault fs) fine in
        λ j. cons_option (answered_ok m.1.answer (f s.1) both.0 each.0.1.answer j) (all_answers ss fs each.1 both.1 j)

-- After a preparation each shard is ready or was refused.
module _ (IsReady : Seen → Type 0) where
  pub prepared_same : (ss : List (ℕ × Seen)) (ps : List (ℕ × ShardResult (Unit {0}))) → EachBecame (IsPrepared IsReady) ss ps → AllZip IsSame ss (map shard_answered ps)
  prepared_same [] [] each = tt
  prepared_same [] (p ∷ ps) each = absurd each
  prepared_same (s ∷ ss) [] each = absurd each
  prepared_same (s ∷ ss) (p ∷ ps) each = ((each.0.0, each.0.1.same), prepared_same ss ps each.1)

  pub prepared_refused : (ss : List (ℕ × Seen)) (ps : List (ℕ × ShardResult (Unit {0}))) (r : Refusal) → EachBecame (IsPrepared IsReady) ss ps → first_fault ps ≡ Err r → r ≡ Memory
  prepared_refused = memory_refused (IsPrepared IsReady) (λ s p h. h.refused)

  -- if no preparation was refused, each shard is ready
  pub prepared_ready : (ss : List (ℕ × Seen)) (ps : List (ℕ × ShardResult (Unit {0}))) → EachBecame (IsPrepared IsReady) ss ps → first_fault ps ≡ Ok tt
      → All (λ (s : ℕ × Seen). IsReady s.1) (map shard_answered ps)
  prepared_ready [] [] each fine = All-nil (λ (s : ℕ × Seen). IsReady s.1)
  prepared_ready [] (p ∷ ps) each fine = absurd each
  prepared_ready (s ∷ ss) [] each fine = absurd each
  prepared_ready (s ∷ ss) (p ∷ ps) each fine =
      let both = or_ok (fault_in p.1.answer) (first_fault ps) fine in
      All-cons (λ (s : ℕ × Seen). IsReady s.1) (shard_answered p) (map shard_answered ps) (one p.1.answer both.0 each.0.1.ready) (prepared_ready ss ps each.1 both.1)
    where
      one : (o : Result (Unit {0}) Refusal) → fault_in o ≡ Ok tt → OnOk o (IsReady p.1.shard) → IsReady p.1.shard
      one (Ok x) e h = h
      one (Err r) e h = cc
