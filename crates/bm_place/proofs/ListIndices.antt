-- A member of a list has an index, and is in each reordering; its image is in the mapped list.
use Rattle.std.specs.Prelude.{◌==◌, ◌||◌, filter_map, slice_get}
use Rattle.std.specs.List.{cons_option}
use Rattle.std.specs.List.Sorted.{IsPermutation}
use Rattle.std.proofs.Common.{◌≡◌, ℕ, zero, suc, Bool, true, false, List, [], ◌∷◌, get_or, Option, Some, None, refl, inl, inr, sym, ap, subst, ◌∙◌}
use Rattle.std.proofs.lemmas.Bool.{eqb-true}
use Rattle.std.proofs.lemmas.List.Sorted.{Contains-permutation}
use Rattle.std.proofs.lemmas.Option.{same_Some, slice_get-get_or, slice_get_within}
use Rattle.bm_base.specs.Maps.Lists.{has}
use Rattle.bm_place.specs.BestTargets.{IsMember}

pub index_among : {X : Type 0} (xs : List X) (x : X) → IsMember xs x → (i : ℕ) × (slice_get xs i ≡ Some x)
index_among [] x none = absurd none
index_among (y ∷ xs) x (inl e) = (0, ap Some e)
index_among (y ∷ xs) x (inr there) = let h = index_among xs x there in (suc h.0, h.1)

among_place : {X : Type 0} (xs : List X) (i : ℕ) (x : X) → slice_get xs i ≡ Some x → IsMember xs x
among_place [] i x at = cc
among_place (y ∷ xs) zero x at = inl (same_Some y x at)
among_place (y ∷ xs) (suc i) x at = inr (among_place xs i x at)

pub moved_among : {X : Type 0} (xs ys : List X) (x : X) → IsPermutation xs ys → IsMember xs x → IsMember ys x
moved_among xs ys x moved there =
    let p = index_among xs x there in
    let within = slice_get_within xs p.0 x p.1 in
    let at = same_Some (get_or xs p.0 x) x (sym (slice_get-get_or xs p.0 x within) ∙ p.1) in
    let q = Contains-permutation xs ys x moved (p.0, within, at) in
    among_place ys q.0 x (slice_get-get_or ys q.0 x q.1 ∙ ap Some q.2)

-- The images of the elements under a partial function.

module _ {X Y : Type 0} (f : X → Option Y) where
  pub made_among : (xs : List X) (x : X) (y : Y) → IsMember xs x → f x ≡ Some y → IsMember (filter_map f xs) y
  made_among [] x y none is = absurd none
  made_among (z ∷ xs) x y (inl e) is = subst (λ o. IsMember (cons_option o (filter_map f xs)) y) (sym (ap f e ∙ is)) (inl refl)
  made_among (z ∷ xs) x y (inr there) is = by (f z) (made_among xs x y there is)
    where
      by : (o : Option Y) → IsMember (filter_map f xs) y → IsMember (cons_option o (filter_map f xs)) y
      by None h = h
      by (Some w) h = inr h

  pub of_made : (xs : List X) (y : Y) → IsMember (filter_map f xs) y → (x : X) × (f x ≡ Some y)
  of_made [] y none = absurd none
  of_made (x ∷ xs) y there = by (f x) refl there (λ h. of_made xs y h)
    where
      by : (o : Option Y) → f x ≡ o → IsMember (cons_option o (filter_map f xs)) y → (IsMember (filter_map f xs) y → (x : X) × (f x ≡ Some y)) → (x : X) × (f x ≡ Some y)
      by None is h rest = rest h
      by (Some z) is (inl e) rest = (x, is ∙ ap Some e)
      by (Some z) is (inr h) rest = rest h

-- a number that the test `has` finds is a member
pub has_among : (xs : List ℕ) (x : ℕ) → has xs x ≡ true → IsMember xs x
has_among [] x e = cc
has_among (y ∷ xs) x e = by (y == x) refl e (λ h. has_among xs x h)
  where
    by : (b : Bool) → (y == x) ≡ b → (b || has xs x) ≡ true → (has xs x ≡ true → IsMember xs x) → IsMember (y ∷ xs) x
    by true same _ rest = inl (eqb-true y x same)
    by false _ later rest = inr (rest later)
