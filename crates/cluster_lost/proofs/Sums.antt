-- Sums and lists over ascending numbers, up to one number and with it.
use Rattle.std.proofs.Common.{◌≡◌, ◌∙◌, ℕ, ◌+◌, ◌<◌, ◌≤◌, Bool, true, false, cond, List, [], ◌∷◌, ◌++◌, refl, sym, ap, subst, map, filter, arith, T, ⊎_elim}
use Rattle.std.specs.Prelude.{◌==◌, ◌&&◌, ◌||◌, nat_lt, sum_by}
use Rattle.std.specs.Ordering.{nat_cmp}
use Rattle.std.specs.FinMap.{is_sorted}
use Rattle.std.specs.FinMap.Entries.{below_all}
use Rattle.std.proofs.lemmas.Bool.{eqb-true, eq-eqb, lt-ltb, le-ltb, cases_lt, false≢true}
use Rattle.std.proofs.lemmas.Bool.Decides.{nat_tests}
use Rattle.std.proofs.lemmas.List.Sums.{sum_by-cons}
use Rattle.bm_base.specs.Maps.Conjunction.{first, second}
use Rattle.bm_base.specs.Words.{Map, by_number, keys, entries, has, has_repeats}
use Rattle.bm_base.proofs.ForEach.{Each, each_then}
use Rattle.bm_base.proofs.OneWish.{less_is}

pub sum_same : {X : Type 0} (f g : X → ℕ) (xs : List X) → ((x : X) → f x ≡ g x) → sum_by f xs ≡ sum_by g xs
sum_same f g xs same = ap (λ (h : _ → ℕ). sum_by h xs) (λ i x. same x i)

pub sum_both : {X : Type 0} (f g : X → ℕ) (xs : List X) → sum_by (λ x. f x + g x) xs ≡ sum_by f xs + sum_by g xs
sum_both f g [] = omega arith
sum_both f g (x ∷ xs) = omega (arith, sum_by-cons (λ y. f y + g y) x xs, sum_by-cons f x xs, sum_by-cons g x xs, sum_both f g xs)

pub sum_none : {X : Type 0} (f : X → ℕ) (xs : List X) → ((x : X) → f x ≡ 0) → sum_by f xs ≡ 0
sum_none f [] none = refl
sum_none f (x ∷ xs) none = omega (arith, sum_by-cons f x xs, none x, sum_none f xs none)

-- a number for one block, 0 for others
abbrev only : ℕ → ℕ → ℕ → ℕ
only t n b = cond (b == t) n 0

none_of_it : (t n : ℕ) (ks : List ℕ) → has ks t ≡ false → sum_by (only t n) ks ≡ 0
none_of_it t n [] h = refl
none_of_it t n (k ∷ ks) h =
    (elim (k == t) as (λ b. (k == t) ≡ b → (b || has ks t) ≡ false → sum_by (only t n) (k ∷ ks) ≡ 0) [
      | true ↦ λ _ e. absurd (false≢true (sym e))
      | false ↦ λ apart rest. omega (arith, sum_by-cons (only t n) k ks, none_of_it t n ks rest, ap (λ b. cond b n 0) apart)
    ]) refl h

sum_of_one : (t n : ℕ) (ks : List ℕ) → has_repeats ks ≡ false → sum_by (only t n) ks ≡ cond (has ks t) n 0
sum_of_one t n [] h = refl
sum_of_one t n (k ∷ ks) h =
    (elim (has ks k) as (λ a. has ks k ≡ a → (a || has_repeats ks) ≡ false → sum_by (only t n) (k ∷ ks) ≡ cond (has (k ∷ ks) t) n 0) [
      | true ↦ λ _ e. absurd (false≢true (sym e))
      | false ↦ λ once rest. by once (sum_of_one t n ks rest) (k == t) refl
    ]) refl h
  where
    by : has ks k ≡ false → sum_by (only t n) ks ≡ cond (has ks t) n 0 → (b : Bool) → (k == t) ≡ b → sum_by (only t n) (k ∷ ks) ≡ cond (b || has ks t) n 0
    by once tail true e = omega (arith, sum_by-cons (only t n) k ks, none_of_it t n ks (subst (λ x. has ks x ≡ false) (eqb-true k t e) once), ap (λ b. cond b n 0) e)
    by once tail false e = omega (arith, sum_by-cons (only t n) k ks, tail, ap (λ b. cond b n 0) e)

pub differ : (a b : ℕ) → b < a → (a == b) ≡ false
differ a b lt = grind (arith, nat_tests, lt)

pub differ_above : (a b : ℕ) → a < b → (a == b) ≡ false
differ_above a b lt = grind (arith, nat_tests, lt)

-- each number is below those that follow it
abbrev pub Increases : List ℕ → Type 0
Increases [] = Unit {0}
Increases (k ∷ ks) = Each (λ b. k < b) ks × Increases ks

-- `p` passes numbers up to t, and of later ones at most those that do not count
module _ (p : ℕ → Bool) (t : ℕ) (low : (b : ℕ) → b ≤ t → p b ≡ true) where
  module _ (f : ℕ → ℕ) (high : (b : ℕ) → t < b → p b ≡ true → f b ≡ 0) where
    parted : (b : ℕ) → cond (p b) (f b) 0 ≡ cond (nat_lt b t) (f b) 0 + only t (f t) b
    parted b = ⊎_elim
        (λ less.
        let with_p : cond (p b) (f b) 0 ≡ f b = ap (λ x. cond x (f b) 0) (low b (omega (arith, less))) in
        let with_t : cond (nat_lt b t) (f b) 0 ≡ f b = ap (λ x. cond x (f b) 0) (lt-ltb b t less) in
        let other : only t (f t) b ≡ 0 = ap (λ x. cond x (f t) 0) (differ_above b t less) in
        omega (arith, with_p, with_t, other))
        (λ le. ⊎_elim
        (λ later.
        let with_p : cond (p b) (f b) 0 ≡ 0 = by b later (p b) refl in
        let with_t : cond (nat_lt b t) (f b) 0 ≡ 0 = ap (λ x. cond x (f b) 0) (le-ltb b t le) in
        let other : only t (f t) b ≡ 0 = ap (λ x. cond x (f t) 0) (differ b t later) in
        omega (arith, with_p, with_t, other))
        (λ ge.
        let is : t ≡ b = omega (arith, le, ge) in
        subst (λ c. cond (p c) (f c) 0 ≡ cond (nat_lt c t) (f c) 0 + only t (f t) c) is here)
        (cases_lt t b))
        (cases_lt b t)
      where
        by : (b : ℕ) → t < b → (x : Bool) → p b ≡ x → cond x (f b) 0 ≡ 0
        by b later true e = high b later e
        by b later false e = refl

        here : cond (p t) (f t) 0 ≡ cond (nat_lt t t) (f t) 0 + only t (f t) t
        here =
            let with_p : cond (p t) (f t) 0 ≡ f t = ap (λ x. cond x (f t) 0) (low t (omega arith)) in
            let with_t : cond (nat_lt t t) (f t) 0 ≡ 0 = ap (λ x. cond x (f t) 0) (le-ltb t t (omega arith)) in
            let same : only t (f t) t ≡ f t = ap (λ x. cond x (f t) 0) (eq-eqb t t refl) in
            omega (arith, with_p, with_t, same)

    pub sum_with : (ks : List ℕ) → has_repeats ks ≡ false → (has ks t ≡ false → f t ≡ 0)
        → sum_by (λ b. cond (p b) (f b) 0) ks ≡ sum_by (λ b. cond (nat_lt b t) (f b) 0) ks + f t
    sum_with ks once none =
        sum_same (λ b. cond (p b) (f b) 0) (λ b. cond (nat_lt b t) (f b) 0 + only t (f t) b) ks parted
        ∙ sum_both (λ b. cond (nat_lt b t) (f b) 0) (only t (f t)) ks
        ∙ ap (λ n. sum_by (λ b. cond (nat_lt b t) (f b) 0) ks + n) (sum_of_one t (f t) ks once ∙ by (has ks t) refl)
      where
        by : (x : Bool) → has ks t ≡ x → cond x (f t) 0 ≡ f t
        by true is = refl
        by false is = sym (none is)

  module _ (q : ℕ → Bool) (high : (b : ℕ) → t < b → p b ≡ true → q b ≡ false) where
    none_above : (b : ℕ) → t < b → (p b && q b) ≡ false
    none_above b later = by (p b) refl
      where
        by : (x : Bool) → p b ≡ x → (x && q b) ≡ false
        by true e = high b later e
        by false e = refl

    none_at : (b : ℕ) → t < b → (nat_lt b t && q b) ≡ false
    none_at b later = ap (λ x. x && q b) (le-ltb b t (omega (arith, later)))

    abbrev tail : List ℕ
    tail = cond (q t) (t ∷ []) []

    abbrev both : List ℕ → List ℕ
    both ks = filter (λ b. p b && q b) ks

    abbrev under : List ℕ → List ℕ
    under ks = filter (λ b. nat_lt b t && q b) ks

    kept : (k : ℕ) (x : Bool) (xs ys zs : List ℕ) → xs ≡ ys ++ zs → cond x (k ∷ xs) xs ≡ cond x (k ∷ ys) ys ++ zs
    kept k true xs ys zs e = ap (λ us. k ∷ us) e
    kept k false xs ys zs e = e

    passed_over : (r : ℕ → Bool) (ks : List ℕ) → Each (λ b. t < b) ks → ((b : ℕ) → t < b → r b ≡ false) → filter r ks ≡ []
    passed_over r [] h none = refl
    passed_over r (k ∷ ks) h none = ap (λ x. cond x (k ∷ filter r ks) (filter r ks)) (none k h.0) ∙ passed_over r ks h.1 none

    has_none : (ks : List ℕ) → Each (λ b. t < b) ks → has ks t ≡ false
    has_none [] h = refl
    has_none (k ∷ ks) h = ap (λ x. x || has ks t) (differ k t h.0) ∙ has_none ks h.1

    at_it : (ks : List ℕ) → Each (λ b. t < b) ks → both (t ∷ ks) ≡ under (t ∷ ks) ++ tail
    at_it ks h =
        ap (λ x. cond (x && q t) (t ∷ both ks) (both ks)) (low t (omega arith))
        ∙ ap (λ xs. cond (q t) (t ∷ xs) xs) (passed_over (λ b. p b && q b) ks h none_above)
        ∙ sym (ap (λ x. cond (x && q t) (t ∷ under ks) (under ks) ++ tail) (le-ltb t t (omega arith)) ∙ ap (λ xs. xs ++ tail) (passed_over (λ b. nat_lt b t && q b) ks h none_at))

    pub filter_with : (ks : List ℕ) → Increases ks → (has ks t ≡ false → q t ≡ false) → both ks ≡ under ks ++ tail
    filter_with [] up none = sym (ap (λ x. cond x (t ∷ []) []) (none refl))
    filter_with (k ∷ ks) up none = ⊎_elim
        (λ less.
        let rest = filter_with ks up.1 (λ h. none (ap (λ x. x || has ks t) (differ_above k t less) ∙ h)) in
        ap (λ x. cond (x && q k) (k ∷ both ks) (both ks)) (low k (omega (arith, less)))
        ∙ kept k (q k) (both ks) (under ks) tail rest
        ∙ sym (ap (λ x. cond (x && q k) (k ∷ under ks) (under ks) ++ tail) (lt-ltb k t less)))
        (λ le. ⊎_elim
        (λ later.
        let all : Each (λ b. t < b) (k ∷ ks) = (later, each_then (λ b. k < b) (λ b. t < b) ks up.0 (λ b h. omega (arith, later, h))) in
        passed_over (λ b. p b && q b) (k ∷ ks) all none_above
        ∙ sym (ap (λ xs. xs ++ tail) (passed_over (λ b. nat_lt b t && q b) (k ∷ ks) all none_at) ∙ ap (λ x. cond x (t ∷ []) []) (none (has_none (k ∷ ks) all))))
        (λ ge.
        let is : t ≡ k = omega (arith, le, ge) in
        subst (λ x. Each (λ b. x < b) ks → both (x ∷ ks) ≡ under (x ∷ ks) ++ tail) is (at_it ks) up.0)
        (cases_lt t k))
        (cases_lt k t)

each_below : {X : Type 0} (k : ℕ) (es : List (ℕ × X)) → T (below_all nat_cmp k es) → Each (λ b. k < b) (map (λ e. e.0) es)
each_below k [] h = tt
each_below k (e ∷ es) h = (less_is k e.0 (nat_lt k e.0) (k == e.0) refl (first _ _ h), each_below k es (second _ _ h))

list_increases : {X : Type 0} (es : List (ℕ × X)) → T (is_sorted nat_cmp es) → Increases (map (λ e. e.0) es)
list_increases [] h = tt
list_increases (e ∷ es) h = (each_below e.0 es (first _ _ h), list_increases es (second _ _ h))

pub keys_rise : {X : Type 0} (m : Map by_number X) → Increases (keys m)
unfolding keys entries
keys_rise m = list_increases m.list m.sorted
