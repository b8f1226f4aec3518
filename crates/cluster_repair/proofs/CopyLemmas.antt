-- Each copy on its way is listed once, after copies are added and after arrived ones leave.
use Rattle.std.proofs.Common.{◌≡◌, ◌∙◌, ◌++◌, ◌∷◌, [], ◌+◌, ℕ, Bool, true, false, not, cond, List, ltb, refl, sym, ap, arith, filter}
use Rattle.std.specs.Prelude.{◌==◌, ◌&&◌, ◌||◌, nat_lt, count_by, if◌then◌else◌}
use Rattle.std.specs.List.{list_any}
use Rattle.std.specs.List.Sorted.{IsPermutation}
use Rattle.std.proofs.lemmas.List.Sums.{sum_by-append, sum_by-cons, sum_by_push}
use Rattle.std.proofs.lemmas.List.Sorted.{sum_by-IsPermutation, list_any-IsPermutation, IsPermutation-filter_both}
use Rattle.bm_base.specs.declared.commands.Transfer.{Transfer}
use Rattle.bm_base.proofs.Clusters.{eqb_turned}
use Rattle.cluster_repair.specs.declared.awaited_copies.Sent.{Sent}
use Rattle.cluster_repair.specs.Copies.{is_copy_of, is_among, has_arrived}

-- Counts and tests.

or_positive : (b : Bool) (n : ℕ) → (b || ltb 0 n) ≡ ltb 0 (cond b 1 0 + n)
or_positive true n = sym (positive_more n) where
  positive_more : (n : ℕ) → ltb 0 (1 + n) ≡ true
  positive_more n = grind arith
or_positive false n = ap (ltb 0) (none_before n) where
  none_before : (n : ℕ) → n ≡ 0 + n
  none_before n = omega arith

any_as_count : {X : Type 0} (p : X → Bool) (xs : List X) → list_any p xs ≡ ltb 0 (count_by p xs)
any_as_count p [] = refl
any_as_count p (x ∷ xs) = ap (λ t. p x || t) (any_as_count p xs) ∙ or_positive (p x) (count_by p xs) ∙ ap (ltb 0) (sym (sum_by-cons (λ y. cond (p y) 1 0) x xs))

positive_if : (h : Bool) → ltb 0 (if h then 1 else 0) ≡ h
positive_if true = refl
positive_if false = refl

-- an item that occurs once or never is in the list exactly if it occurs once
pub there_if_once : {X : Type 0} (p : X → Bool) (xs : List X) (h : Bool) → count_by p xs ≡ (if h then 1 else 0) → h ≡ list_any p xs
there_if_once p xs h once = sym (any_as_count p xs ∙ ap (ltb 0) once ∙ positive_if h)

-- One more.

one_more : (m n : ℕ) (is old new : Bool) → m ≡ (if old then 1 else 0) → n ≡ m + cond is 1 0 → new ≡ cond is true old → (is ≡ true → old ≡ false) → n ≡ (if new then 1 else 0)
one_more m n true true new before more now fresh = grind (arith, fresh refl)
one_more m n true false new before more now fresh = more ∙ ap (λ k. k + 1) before ∙ sym (ap (λ t. if t then 1 else 0) now)
one_more m n false true new before more now fresh = more ∙ ap (λ k. k + 0) before ∙ sym (ap (λ t. if t then 1 else 0) now)
one_more m n false false new before more now fresh = more ∙ ap (λ k. k + 0) before ∙ sym (ap (λ t. if t then 1 else 0) now)

both_turned : (a b c d : ℕ) → ((a == c) && (b == d)) ≡ ((c == a) && (d == b))
both_turned a b c d = λ i. eqb_turned a c i && eqb_turned b d i

fresh_there : (xs : List Sent) (t : Transfer) (b s : ℕ) (old : Bool) → is_among xs t ≡ false → old ≡ list_any (is_copy_of b s) xs → ((b == t.block) && (s == t.target)) ≡ true → old ≡ false
fresh_there xs t b s old fresh is here = grind (arith, fresh, is, here)

-- a copy that is not there is added
pub once_with : (xs ys : List Sent) (s : Sent) (b t : ℕ) (old new : Bool) → ys ≡ xs ++ s ∷ [] → is_among xs s.transfer ≡ false
    → count_by (is_copy_of b t) xs ≡ (if old then 1 else 0) → new ≡ cond ((s.transfer.block == b) && (s.transfer.target == t)) true old
    → count_by (is_copy_of b t) ys ≡ (if new then 1 else 0)
once_with xs ys s b t old new is fresh before now =
    one_more (count_by (is_copy_of b t) xs) (count_by (is_copy_of b t) ys) (is_copy_of b t s) old new before
    (ap (count_by (is_copy_of b t)) is ∙ sum_by_push (λ x. cond (is_copy_of b t x) 1 0) xs s)
    (now ∙ ap (λ c. cond c true old) (both_turned s.transfer.block s.transfer.target b t))
    (fresh_there xs s.transfer b t old fresh (there_if_once (is_copy_of b t) xs old before))

-- Arrived copies are removed.

left_over : (m n : ℕ) (h : Bool) → m + n ≡ (if h then 1 else 0) → n ≡ (if h && not (ltb 0 m) then 1 else 0)
left_over m n true e = left m n e where
  left : (m n : ℕ) → m + n ≡ 1 → n ≡ (if not (ltb 0 m) then 1 else 0)
  left m n e = grind (arith, e)
left_over m n false e = omega (arith, e)

after_now : (now : ℕ) (s : Sent) → nat_lt now s.arrival ≡ not (has_arrived now s)
after_now now s = grind arith

-- the copies that have arrived are removed
pub once_without : (xs due left : List Sent) (now b t : ℕ) (old new : Bool) → IsPermutation (filter (has_arrived now) xs) due → left ≡ filter (λ s. nat_lt now s.arrival) xs
    → count_by (is_copy_of b t) xs ≡ (if old then 1 else 0) → new ≡ (old && not (list_any (is_copy_of b t) due)) → count_by (is_copy_of b t) left ≡ (if new then 1 else 0)
once_without xs due left now b t old new permuted is before after =
    let p = is_copy_of b t in
    let ones : Sent → ℕ = λ s. cond (p s) 1 0 in
    let gone = filter (has_arrived now) xs in
    let stay = filter (λ (s : Sent). nat_lt now s.arrival) xs in
    let both : count_by p gone + count_by p stay ≡ count_by p xs =
    sym (sum_by-append ones gone stay) ∙ sum_by-IsPermutation ones xs (gone ++ stay) (IsPermutation-filter_both (has_arrived now) (λ (s : Sent). nat_lt now s.arrival) (after_now now) xs) in
    let found : list_any p due ≡ ltb 0 (count_by p gone) = sym (list_any-IsPermutation p gone due permuted) ∙ any_as_count p gone in
    ap (count_by p) is ∙ left_over (count_by p gone) (count_by p stay) old (both ∙ before)
    ∙ ap (λ f. if old && not f then 1 else 0) (sym found) ∙ ap (λ h. if h then 1 else 0) (sym after)

-- The targets of arrived copies are forgotten.

kept : (c h a : Bool) → cond c false (h && not a) ≡ (h && not (a || c))
kept true true true = refl
kept true true false = refl
kept true false a = refl
kept false true true = refl
kept false true false = refl
kept false false a = refl

-- one more target is forgotten
pub forgotten_more : (x : Sent) (b t : ℕ) (old now next before after : Bool) → now ≡ (old && not before) → next ≡ cond ((x.transfer.block == b) && (x.transfer.target == t)) false now
    → after ≡ (before || is_copy_of b t x) → next ≡ (old && not after)
forgotten_more x b t old now next before after have step more =
    step ∙ ap (λ c. cond c false now) (both_turned x.transfer.block x.transfer.target b t) ∙ ap (cond (is_copy_of b t x) false) have
    ∙ kept (is_copy_of b t x) old before ∙ ap (λ a. old && not a) (sym more)
