-- A surplus of k is chosen from the candidates, and all others stay.
use Rattle.std.specs.Prelude.{◌≡◌, ℕ, zero, suc, ◌+◌, ◌≤◌, Bool, true, false, not, ◌&&◌, ◌||◌, ◌==◌, if◌then◌else◌, List, [], ◌∷◌, filter, length, Option, Some, None}
use Rattle.std.specs.declared.cmp.Ordering.{Ordering}
use Rattle.std.specs.Ordering.{is_lt}
use Rattle.std.specs.Option.{option_map_or}
use Rattle.std.proofs.Common.{cond, refl, sym, ap, subst, ◌∙◌, arith}
use Rattle.std.proofs.lemmas.Bool.{eqb-true, false≢true, or_left, or_right}
use Rattle.bm_base.specs.Words.{Cluster, has, has_repeats, least, excess_cmp, excess_among}
use Rattle.bm_base.proofs.Clusters.{eqb_turned}
use Rattle.std.proofs.lemmas.Option.{same_Some, none-some}
use Rattle.bm_base.proofs.ListTests.{count_without, has_filter, once_filter, filter_filter, same_again, and_second}
use Rattle.bm_base.proofs.Slices.{all_pass}

-- The least of a list is in the list, and nothing in it comes before the least by the order's first
-- part.

among_two : (x y : ℕ) (xs : List ℕ) (b : Bool) → has xs y ≡ true → has (x ∷ xs) (cond b y x) ≡ true
among_two x y xs true h = or_right (x == y) (has xs y) h
among_two x y xs false h = or_left (x == x) (has xs x) (same_again x)

among_first : (R : ℕ → ℕ → Ordering) (x : ℕ) (xs : List ℕ) (m : Option ℕ) → ((y : ℕ) → m ≡ Some y → has xs y ≡ true)
    → has (x ∷ xs) (option_map_or (λ y. if is_lt (R y x) then y else x) m x) ≡ true
among_first R x xs None h = or_left (x == x) (has xs x) (same_again x)
among_first R x xs (Some y) h = among_two x y xs (is_lt (R y x)) (h y refl)

pub least_among : (R : ℕ → ℕ → Ordering) (xs : List ℕ) (x : ℕ) → least R xs ≡ Some x → has xs x ≡ true
least_among R [] x e = absurd (none-some x e)
least_among R (z ∷ xs) x e =
    subst (λ y. has (z ∷ xs) y ≡ true) (same_Some (option_map_or (λ y. if is_lt (R y z) then y else z) (least R xs) z) x e) (among_first R z xs (least R xs) (λ y f. least_among R xs y f))

-- a list that is not empty has a least item
pub least_there : (R : ℕ → ℕ → Ordering) (xs : List ℕ) → 1 ≤ length xs → least R xs ≡ None → ⊥
least_there R [] h e = omega arith
least_there R (x ∷ xs) h e = none-some (option_map_or (λ y. if is_lt (R y x) then y else x) (least R xs) x) (sym e)

-- The candidates that stay.

abbrev pub kept_of : List ℕ → List ℕ → List ℕ
kept_of chosen candidates = filter (λ s. not (has chosen s)) candidates

abbrev pub others : ℕ → List ℕ → List ℕ
others x candidates = filter (λ s. not (s == x)) candidates

neither : (a b : Bool) → (not a && not b) ≡ not (a || b)
neither true b = refl
neither false b = refl

pub kept_step : (x : ℕ) (chosen candidates : List ℕ) → kept_of (x ∷ chosen) candidates ≡ kept_of chosen (others x candidates)
kept_step x chosen candidates =
    sym (filter_filter (λ s. not (has chosen s)) (λ s. not (s == x)) candidates
    ∙ ap (λ (t : ℕ → Bool). filter t candidates) (λ i s. (ap (λ b. not b && not (has chosen s)) (eqb_turned s x) ∙ neither (x == s) (has chosen s)) i))

pub others_fewer : (x : ℕ) (candidates : List ℕ) → has_repeats candidates ≡ false → has candidates x ≡ true → length (others x candidates) + 1 ≡ length candidates
others_fewer x candidates once there =
    let e = count_without (λ _. true) x candidates once there in
    let f = ap length (all_pass (others x candidates)) in
    let g = ap length (all_pass candidates) in
    omega (arith, e, f, g)

module _ (C : Cluster) where
  -- the choice, if its first one is known
  pub chosen_first : (k : ℕ) (candidates : List ℕ) (m : Option ℕ) (x : ℕ) → m ≡ Some x
      → option_map_or (λ y. y ∷ excess_among C k (others y candidates)) m [] ≡ x ∷ excess_among C k (others x candidates)
  chosen_first k candidates m x e = ap (λ n. option_map_or (λ y. y ∷ excess_among C k (others y candidates)) n []) e

  -- all candidates but k stay
  pub kept_count : (k : ℕ) (candidates : List ℕ) → has_repeats candidates ≡ false → k ≤ length candidates
      → length (kept_of (excess_among C k candidates) candidates) + k ≡ length candidates
  kept_count zero candidates once h = let e = ap length (all_pass candidates) in omega (arith, e)
  kept_count (suc k) candidates once h = by_least (least (excess_cmp C candidates) candidates) refl (λ x there. kept_count k (others x candidates) (once_filter (λ s. not (s == x)) candidates once) (let f = others_fewer x candidates once there in omega (arith, f, h)))
    where
      by_least : (m : Option ℕ) → least (excess_cmp C candidates) candidates ≡ m
          → ((x : ℕ) → has candidates x ≡ true → length (kept_of (excess_among C k (others x candidates)) (others x candidates)) + k ≡ length (others x candidates))
          → length (kept_of (option_map_or (λ x. x ∷ excess_among C k (others x candidates)) (least (excess_cmp C candidates) candidates) []) candidates) + suc k ≡ length candidates
      by_least None e rest = absurd (least_there (excess_cmp C candidates) candidates (omega (arith, h)) e)
      by_least (Some x) e rest =
          let there = least_among (excess_cmp C candidates) candidates x e in
          let r = rest x there in
          let f = others_fewer x candidates once there in
          let g : length (kept_of (option_map_or (λ y. y ∷ excess_among C k (others y candidates)) (least (excess_cmp C candidates) candidates) []) candidates) ≡ length (kept_of (excess_among C k (others x candidates)) (others x candidates)) =
          ap (λ xs. length (kept_of xs candidates)) (chosen_first k candidates (least (excess_cmp C candidates) candidates) x e) ∙ ap length (kept_step x (excess_among C k (others x candidates)) candidates) in
          omega (arith, r, f, g)

  -- each chosen one is a candidate
  pub chosen_among : (k : ℕ) (candidates : List ℕ) (s : ℕ) → has (excess_among C k candidates) s ≡ true → has candidates s ≡ true
  chosen_among zero candidates s h = absurd (false≢true h)
  chosen_among (suc k) candidates s h = by_least (least (excess_cmp C candidates) candidates) refl (λ x. chosen_among k (others x candidates) s) h
    where
      by_case : (x : ℕ) → has candidates x ≡ true → (has (excess_among C k (others x candidates)) s ≡ true → has (others x candidates) s ≡ true)
          → (b : Bool) → (x == s) ≡ b → (b || has (excess_among C k (others x candidates)) s) ≡ true → has candidates s ≡ true
      by_case x there rest true e f = subst (λ z. has candidates z ≡ true) (eqb-true x s e) there
      by_case x there rest false e f = and_second (not (s == x)) (has candidates s) (sym (has_filter (λ z. not (z == x)) candidates s) ∙ rest f)

      by_least : (m : Option ℕ) → least (excess_cmp C candidates) candidates ≡ m
          → ((x : ℕ) → has (excess_among C k (others x candidates)) s ≡ true → has (others x candidates) s ≡ true)
          → has (option_map_or (λ x. x ∷ excess_among C k (others x candidates)) (least (excess_cmp C candidates) candidates) []) s ≡ true → has candidates s ≡ true
      by_least None e rest f = absurd (false≢true (ap (λ m. has (option_map_or (λ x. x ∷ excess_among C k (others x candidates)) m []) s) (sym e) ∙ f))
      by_least (Some x) e rest f =
          by_case x (least_among (excess_cmp C candidates) candidates x e) (rest x) (x == s) refl
          (sym (ap (λ xs. has xs s) (chosen_first k candidates (least (excess_cmp C candidates) candidates) x e)) ∙ f)
