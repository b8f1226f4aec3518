-- A list in another order has the same members, and no duplicates if the first has none.
use Rattle.std.specs.Prelude.{◌≡◌, ℕ, ◌==◌, false, List, [], ◌∷◌}
use Rattle.std.specs.List.{IsDistinct, AllByRecursion}
use Rattle.std.specs.List.Sorted.{IsPermutation}
use Rattle.std.proofs.Common.{inl, inr, sym, ◌∙◌, ne_eqb, eq-eqb, true≢false}
use Rattle.std.proofs.lemmas.Map.Keys.{IsDistinct-IsPermutation}
use Rattle.std.proofs.lemmas.List.Sorted.{list_any-IsPermutation}
use Rattle.bm_maps.specs.SlotLists.{IsMember, Distinct}
use Rattle.bm_levels.proofs.EqualLists.{has_among, among_has}
use Rattle.bm_base.proofs.Clusters.{eqb_turned}

module _ (xs ys : List ℕ) (moved : IsPermutation xs ys) where
  pub among_moved : (x : ℕ) → IsMember x xs → IsMember x ys
  among_moved x h = has_among ys x (sym (list_any-IsPermutation (λ y. y == x) xs ys moved) ∙ among_has xs x h)

  pub among_before : (x : ℕ) → IsMember x ys → IsMember x xs
  among_before x h = has_among xs x (list_any-IsPermutation (λ y. y == x) xs ys moved ∙ among_has ys x h)

others : (x : ℕ) (ys : List ℕ) → (IsMember x ys → ⊥) → AllByRecursion (λ y. (x == y) ≡ false) ys
others x [] none = tt
others x (y ∷ ys) none = (ne_eqb x y (λ same. none (inl same)), others x ys (λ h. none (inr h)))

pub as_ties : (xs : List ℕ) → Distinct xs → IsDistinct (λ (x y : ℕ). x == y) xs
unfolding IsDistinct
as_ties [] d = tt
as_ties (x ∷ xs) d = (others x xs d.0, as_ties xs d.1)

not_among : (x : ℕ) (ys : List ℕ) → AllByRecursion (λ y. (x == y) ≡ false) ys → IsMember x ys → ⊥
not_among x [] d h = absurd h
not_among x (y ∷ ys) d h = elim h [ inl same ↦ true≢false (sym (eq-eqb x y same) ∙ d.0) | inr later ↦ not_among x ys d.1 later ]

of_ties : (xs : List ℕ) → IsDistinct (λ (x y : ℕ). x == y) xs → Distinct xs
unfolding IsDistinct
of_ties [] d = tt
of_ties (x ∷ xs) d = (not_among x xs d.0, of_ties xs d.1)

-- the other order has no duplicates either
pub distinct_moved : (xs ys : List ℕ) → IsPermutation xs ys → Distinct xs → Distinct ys
distinct_moved xs ys moved d = of_ties ys (IsDistinct-IsPermutation (λ (x y : ℕ). x == y) eqb_turned xs ys moved (as_ties xs d))
