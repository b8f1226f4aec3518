-- What the checks of a saved node or block say, and what ascending numbers are.
use Rattle.std.proofs.Common.{◌≡◌, ℕ, suc, ◌<◌, Bool, true, false, not, ◌&&◌, ◌||◌, List, [], ◌∷◌, map, Option, Some, None, refl, ap, ◌∙◌, arith, T, ltb-true, ltb-false, lt-ltb, ne_eqb}
use Rattle.std.specs.Prelude.{◌==◌, if◌then◌else◌, nat_lt}
use Rattle.std.specs.List.{list_any}
use Rattle.std.specs.Ordering.{nat_cmp}
use Rattle.std.specs.FinMap.{is_sorted}
use Rattle.std.specs.FinMap.Entries.{below_all}
use Rattle.std.proofs.lemmas.Bool.{and_parts}
use Rattle.bm_base.specs.Words.{has_repeats}
use Rattle.bm_base.specs.Maps.Conjunction.{first, second}
use Rattle.bm_base.proofs.ForEach.{Each, each_then}
use Rattle.bm_base.proofs.Orderings.{less_number}
use Rattle.bm_saved.specs.declared.LoadFault.{LoadFault}
use Rattle.bm_saved.specs.Faults.{first_fault, is_above, ascend_above, ascend}

-- Lists.

pub none_of : {X : Type 0} (p : X → Bool) (xs : List X) → Each (λ x. p x ≡ false) xs → list_any p xs ≡ false
none_of p [] e = refl
none_of p (x ∷ xs) e = ap (λ b. b || list_any p xs) e.0 ∙ none_of p xs e.1

pub map_twice : {X Y Z : Type 0} (g : Y → Z) (f : X → Y) (xs : List X) → map g (map f xs) ≡ map (λ x. g (f x)) xs
map_twice g f [] = refl
map_twice g f (x ∷ xs) = ap (λ ys. g (f x) ∷ ys) (map_twice g f xs)

pub not_empty : (n : ℕ) → (suc n == 0) ≡ false
not_empty n = ne_eqb (suc n) 0 (λ e. omega (arith, e))

-- of mapped elements, back to the elements
pub mapped_back : {X Y : Type 0} (P : Y → Type 0) (f : X → Y) (xs : List X) → Each P (map f xs) → Each (λ x. P (f x)) xs
mapped_back P f [] e = tt
mapped_back P f (x ∷ xs) e = (e.0, mapped_back P f xs e.1)

-- Checks.

pub all_fail : (cs : List (LoadFault × Bool)) → first_fault cs ≡ None → Each (λ c. c.1 ≡ false) cs
all_fail [] e = tt
all_fail (c ∷ cs) e =
    (elim (c.1) as (λ b. c.1 ≡ b → (if b then Some c.0 else first_fault cs) ≡ None → Each (λ d. d.1 ≡ false) (c ∷ cs)) [
      | true ↦ λ _ h. cc
      | false ↦ λ t h. (t, all_fail cs h)
    ]) refl e

pub no_faults : (cs : List (LoadFault × Bool)) → Each (λ c. c.1 ≡ false) cs → first_fault cs ≡ None
no_faults [] e = refl
no_faults (c ∷ cs) e = ap (λ b. if b then Some c.0 else first_fault cs) e.0 ∙ no_faults cs e.1

pub known_by : (b : Bool) → not b ≡ false → b ≡ true
known_by true e = refl
known_by false e = cc

-- The last number.

pub below_next : (last : Option ℕ) (a b : ℕ) → is_above last a ≡ false → is_above last b ≡ true → a < b
below_next None a b e h = cc
below_next (Some l) a b e h = let low = ltb-false l a e in let high = ltb-true l b h in omega (arith, low, high)

-- Ascending numbers.

pub all_greater : (a : ℕ) (xs : List ℕ) → ascend_above (Some a) xs ≡ true → Each (λ x. a < x) xs
all_greater a [] up = tt
all_greater a (x ∷ xs) up =
    let p = and_parts (nat_lt a x) (ascend_above (Some x) xs) up in
    let less = ltb-true a x p.0 in
    (less, each_then (λ y. x < y) (λ y. a < y) xs (all_greater x xs p.1) (λ y more. omega (arith, less, more)))

pub unbounded : (last : Option ℕ) (xs : List ℕ) → ascend_above last xs ≡ true → ascend xs ≡ true
unbounded last [] up = refl
unbounded last (x ∷ xs) up = (and_parts (is_above last x) (ascend_above (Some x) xs) up).1

pub no_repeats : (xs : List ℕ) → ascend xs ≡ true → has_repeats xs ≡ false
no_repeats [] up = refl
no_repeats (x ∷ xs) up =
    ap (λ b. b || has_repeats xs) (none_of (λ y. y == x) xs (each_then (λ y. x < y) (λ y. (y == x) ≡ false) xs (all_greater x xs up) (λ y less. ne_eqb y x (λ e. omega (arith, less, e)))))
    ∙ no_repeats xs (unbounded (Some x) xs up)

-- the keys of sorted entries ascend
above_all : {X : Type 0} (a : ℕ) (es : List (ℕ × X)) → T (below_all nat_cmp a es) → ascend (map (λ e. e.0) es) ≡ true → ascend_above (Some a) (map (λ e. e.0) es) ≡ true
above_all a [] low up = refl
above_all a (e ∷ es) low up = ap (λ b. b && ascend_above (Some e.0) (map (λ e. e.0) es)) (lt-ltb a e.0 (less_number a e.0 (first _ _ low))) ∙ up

pub ascending_keys : {X : Type 0} (es : List (ℕ × X)) → T (is_sorted nat_cmp es) → ascend (map (λ e. e.0) es) ≡ true
ascending_keys [] h = refl
ascending_keys (e ∷ es) h = above_all e.0 es (first _ _ h) (ascending_keys es (second _ _ h))
