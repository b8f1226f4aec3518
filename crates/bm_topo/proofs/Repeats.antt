-- A list repeats a number exactly if its front does, its rest does, or both have one in common.
use Rattle.std.proofs.Common.{◌≡◌, ℕ, ◌<◌, ◌≤◌, Bool, true, false, ltb, List, [], ◌∷◌, ◌++◌, length, get_or, Result, Ok, Err, is_ok, MatchResult, arith, refl, sym, ap, ◌∙◌}
use Rattle.std.specs.Prelude.{◌==◌, ◌||◌}
use Rattle.std.specs.Ordering.{nat_cmp}
use Rattle.std.specs.List.{list_any, IsDistinct, AllByRecursion}
use Rattle.std.specs.List.Sorted.{IsPermutation, IsNonDecreasing, IsStrictlyIncreasing, IsBinarySearchResult}
use Rattle.std.proofs.lemmas.Bool.{eq-eqb, ne_eqb, ltb-true, ltb-false}
use Rattle.std.proofs.lemmas.List.Folds.{list_any-append, list_any_at, list_any_none}
use Rattle.std.proofs.lemmas.List.Elements.{All-from_get_or}
use Rattle.std.proofs.lemmas.List.Sorted.{IsPermutation-sym, list_any-IsPermutation, searched}
use Rattle.std.proofs.lemmas.Map.Keys.{IsDistinct-IsPermutation, IsDistinct-from_apart, apart_from_distinct, sorted_from_strictly_increasing, below_from_sorted}
use Rattle.bm_base.specs.Maps.Lists.{has, has_repeats}
use Rattle.bm_base.proofs.Clusters.{eqb_turned}

abbrev same : ℕ → ℕ → Bool
same x y = x == y

pub or_first : (a b : Bool) → (a || b) ≡ false → a ≡ false
or_first a b = elim a as (λ a. (a || b) ≡ false → a ≡ false) [ true ↦ λ e. e | false ↦ λ _. refl ]

or_second : (a b : Bool) → (a || b) ≡ false → b ≡ false
or_second a b = elim a as (λ a. (a || b) ≡ false → b ≡ false) [ true ↦ λ e. absurd (cc) | false ↦ λ e. e ]

all_differ : (x : ℕ) (ys : List ℕ) → has ys x ≡ false → AllByRecursion (λ y. same x y ≡ false) ys
all_differ x [] e = tt
all_differ x (y ∷ ys) e = (eqb_turned x y ∙ or_first (y == x) (has ys x) e, all_differ x ys (or_second (y == x) (has ys x) e))

has_none : (x : ℕ) (ys : List ℕ) → AllByRecursion (λ y. same x y ≡ false) ys → has ys x ≡ false
has_none x [] h = refl
has_none x (y ∷ ys) h = ap (λ b. b || has ys x) (eqb_turned y x ∙ h.0) ∙ has_none x ys h.1

distinct_from_no_repeats : (xs : List ℕ) → has_repeats xs ≡ false → IsDistinct same xs
unfolding IsDistinct
distinct_from_no_repeats [] e = tt
distinct_from_no_repeats (x ∷ xs) e = (all_differ x xs (or_first (has xs x) (has_repeats xs) e), distinct_from_no_repeats xs (or_second (has xs x) (has_repeats xs) e))

pub no_repeats_from_distinct : (xs : List ℕ) → IsDistinct same xs → has_repeats xs ≡ false
unfolding IsDistinct
no_repeats_from_distinct [] h = refl
no_repeats_from_distinct (x ∷ xs) h = ap (λ b. b || has_repeats xs) (has_none x xs h.0) ∙ no_repeats_from_distinct xs h.1

no_repeats_moved : (xs ys : List ℕ) → IsPermutation xs ys → has_repeats xs ≡ false → has_repeats ys ≡ false
no_repeats_moved xs ys p e = no_repeats_from_distinct ys (IsDistinct-IsPermutation same eqb_turned xs ys p (distinct_from_no_repeats xs e))

bool_cases : (a b : Bool) → (a ≡ false → b ≡ false) → (b ≡ false → a ≡ false) → a ≡ b
bool_cases a b = elim a as (λ a. (a ≡ false → b ≡ false) → (b ≡ false → a ≡ false) → a ≡ b) [
  | true ↦ elim b as (λ b. (true ≡ false → b ≡ false) → (b ≡ false → true ≡ false) → true ≡ b) [ true ↦ λ _ _. refl | false ↦ λ _ g. g refl ]
  | false ↦ λ f _. sym (f refl)
]

-- an order changes nothing
pub has_repeats-moved : (xs ys : List ℕ) → IsPermutation xs ys → has_repeats xs ≡ has_repeats ys
has_repeats-moved xs ys p = bool_cases (has_repeats xs) (has_repeats ys) (no_repeats_moved xs ys p) (no_repeats_moved ys xs (IsPermutation-sym xs ys p))

any_of_either : (p q : ℕ → Bool) (ys : List ℕ) → list_any (λ y. p y || q y) ys ≡ (list_any p ys || list_any q ys)
any_of_either p q [] = refl
any_of_either p q (y ∷ ys) = grind (arith, any_of_either p q ys)

any_of_none : (ys : List ℕ) → list_any (λ _. false) ys ≡ false
any_of_none [] = refl
any_of_none (y ∷ ys) = any_of_none ys

-- a part and what follows it
has_repeats-append : (xs ys : List ℕ) → has_repeats (xs ++ ys) ≡ ((has_repeats xs || list_any (has xs) ys) || has_repeats ys)
has_repeats-append [] ys = ap (λ b. b || has_repeats ys) (sym (any_of_none ys))
has_repeats-append (x ∷ xs) ys = grind (arith, list_any-append (λ y. y == x) xs ys, any_of_either (λ y. x == y) (has xs) ys, has_repeats-append xs ys)

pub has_repeats-split : (xs front back : List ℕ) (r b : Bool) → xs ≡ front ++ back → r ≡ (has_repeats front || list_any (has front) back) → r ≡ b → has_repeats xs ≡ (b || has_repeats back)
has_repeats-split xs front back r b e facts is = ap has_repeats e ∙ has_repeats-append front back ∙ ap (λ a. a || has_repeats back) (sym facts ∙ is)

-- ascending numbers
pub no_repeats-ascending : (xs : List ℕ) → IsStrictlyIncreasing xs → has_repeats xs ≡ false
no_repeats-ascending xs up = no_repeats_from_distinct xs (IsDistinct-from_apart same xs (λ i j d lt within.
    let below : get_or xs i d < get_or xs j d = below_from_sorted xs i j d (sorted_from_strictly_increasing xs up) lt within in
    ne_eqb (get_or xs i d) (get_or xs j d) (λ e. omega (arith, below, e))))

-- a number at two indices
pub repeats_from_alike : (xs : List ℕ) (i j d : ℕ) → i < j → j < length xs → get_or xs i d ≡ get_or xs j d → has_repeats xs ≡ true
repeats_from_alike xs i j d lt within e = elim (has_repeats xs) as (λ b. has_repeats xs ≡ b → b ≡ true) [
  | true ↦ λ _. refl
  | false ↦ λ none. sym (apart_from_distinct same xs i j d (distinct_from_no_repeats xs none) lt within) ∙ eq-eqb _ _ e
] refl

any_moved : (xs ys zs : List ℕ) → IsPermutation xs ys → list_any (has xs) zs ≡ list_any (has ys) zs
any_moved xs ys [] p = refl
any_moved xs ys (z ∷ zs) p = grind (arith, list_any-IsPermutation (λ y. y == z) xs ys p, any_moved xs ys zs p)

-- what a sorted part implies about the part
pub twice_in_part : (part sorted others : List ℕ) (r : Bool) → IsPermutation part sorted → r ≡ has_repeats sorted → r ≡ true → r ≡ (has_repeats part || list_any (has part) others)
twice_in_part part sorted others r p e t = t ∙ sym (ap (λ b. b || list_any (has part) others) (has_repeats-moved part sorted p ∙ sym e ∙ t))

pub twice_behind : (part sorted others : List ℕ) (r s : Bool) → IsPermutation part sorted → r ≡ has_repeats sorted → r ≡ false → s ≡ list_any (has sorted) others → s ≡ (has_repeats part || list_any (has part) others)
twice_behind part sorted others r s p e f a = a ∙ sym (any_moved part sorted others p) ∙ sym (ap (λ b. b || list_any (has part) others) (has_repeats-moved part sorted p ∙ sym e ∙ f))

apart : (xs : List ℕ) (x i : ℕ) → ((k : ℕ) → k < i → get_or xs k 0 < x) → ((k : ℕ) → i ≤ k → k < length xs → x < get_or xs k 0) → (k : ℕ) → k < length xs → same (get_or xs k 0) x ≡ false
apart xs x i below above k within =
    elim (ltb k i) as (λ b. ltb k i ≡ b → same (get_or xs k 0) x ≡ false) [
      | true ↦ λ t. let lt = below k (ltb-true k i t) in ne_eqb (get_or xs k 0) x (λ e. omega (arith, lt, e))
      | false ↦ λ f. let lt = above k (ltb-false k i f) within in ne_eqb (get_or xs k 0) x (λ e. omega (arith, lt, e))
    ] refl

-- what a binary search implies
pub has_from_search : (xs : List ℕ) (x : ℕ) (r : Result ℕ ℕ) → IsBinarySearchResult (λ y. nat_cmp y x) xs r → IsNonDecreasing xs → is_ok r ≡ has xs x
has_from_search xs x r s up =
    elim r as (λ r. MatchResult r (λ i. (i < length xs) × (get_or xs i 0 ≡ x)) (λ i. (i ≤ length xs) × ((k : ℕ) → k < i → get_or xs k 0 < x) × ((k : ℕ) → i ≤ k → k < length xs → x < get_or xs k 0)) → is_ok r ≡ has xs x) [
      | Ok i ↦ λ h. sym (list_any_at (λ y. same y x) xs i 0 h.0 (eq-eqb (get_or xs i 0) x h.1))
      | Err i ↦ λ h. sym (list_any_none (λ y. same y x) xs (All-from_get_or (λ y. same y x ≡ false) xs 0 (apart xs x i h.1 h.2)))
    ] (searched xs x r s (λ i j le within. up i j 0 le within))
