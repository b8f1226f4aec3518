-- The least element of a filtered list passes the filter, and none that passes comes before it.
use Rattle.std.specs.Prelude.{◌||◌}
use Rattle.std.specs.Option.{option_map_or}
use Rattle.std.proofs.Common.{◌≡◌, ℕ, Bool, true, false, cond, List, [], ◌∷◌, filter, Option, Some, None, refl, sym, ap, subst, ◌∙◌, ◌==◌, true≢false}
use Rattle.std.specs.declared.cmp.Ordering.{Ordering}
use Rattle.std.specs.Ordering.{is_lt}
use Rattle.std.specs.Cmp.{IsTotalOrder, IsStrictWeakOrder}
use Rattle.std.proofs.lemmas.List.MinMax.{ranks_by}
use Rattle.std.proofs.lemmas.Bool.{eqb-true}
use Rattle.std.proofs.Math.Bool.{or-true}
use Rattle.bm_base.specs.Maps.Lists.{has, least}
use Rattle.bm_place.specs.Least.{IsLeastOf}
use Rattle.bm_base.proofs.ListTests.{same_again}

module _ (R : ℕ → ℕ → Ordering) (o : IsStrictWeakOrder (λ x y. is_lt (R x y))) (p : ℕ → Bool) where
  itself : (x : ℕ) (b : Bool) → is_lt (R x x) ≡ b → is_lt (R x x) ≡ false
  itself x true e = o.one_way x x e
  itself x false e = e

  -- the first of the numbers, or one after it
  first_or : (P : ℕ → Type 0) (x y : ℕ) (xs : List ℕ) (b : Bool) → (x == y) ≡ b → (b || has xs y) ≡ true → P x → (has xs y ≡ true → P y) → P y
  first_or P x y xs true e h here rest = subst P (eqb-true x y e) here
  first_or P x y xs false e h here rest = rest h

  after_none : (x : ℕ) (xs : List ℕ) → p x ≡ true → IsLeastOf R p xs None → IsLeastOf R p (x ∷ xs) (Some x)
  after_none x xs passes rest = (
    passes,
    ap (λ b. b || has xs x) (same_again x),
    λ y h e. first_or (λ z. p z ≡ true → is_lt (R z x) ≡ false) x y xs (x == y) refl h (λ _. itself x (is_lt (R x x)) refl) (λ there e. absurd (true≢false (sym e ∙ rest y there))) e,
  )

  after_some : (x b : ℕ) (xs : List ℕ) (t : Bool) → is_lt (R b x) ≡ t → p x ≡ true → IsLeastOf R p xs (Some b) → IsLeastOf R p (x ∷ xs) (Some (cond t b x))
  after_some x b xs true e passes rest = (
    rest.0,
    ap (λ t. (x == b) || t) rest.1 ∙ or-true (x == b),
    λ y h f. first_or (λ z. p z ≡ true → is_lt (R z b) ≡ false) x y xs (x == y) refl h (λ _. o.one_way b x e) (λ there f. rest.2 y there f) f,
  )
  after_some x b xs false e passes rest = (
    passes,
    ap (λ t. t || has xs x) (same_again x),
    λ y h f. first_or (λ z. p z ≡ true → is_lt (R z x) ≡ false) x y xs (x == y) refl h (λ _. itself x (is_lt (R x x)) refl) (λ there f. o.chain y b x (rest.2 y there f) e) f,
  )

  passed_over : (x : ℕ) (xs : List ℕ) (m : Option ℕ) → p x ≡ false → IsLeastOf R p xs m → IsLeastOf R p (x ∷ xs) m
  passed_over x xs None fails rest = λ y h. first_or (λ z. p z ≡ false) x y xs (x == y) refl h fails (rest y)
  passed_over x xs (Some b) fails rest = (
    rest.0,
    ap (λ t. (x == b) || t) rest.1 ∙ or-true (x == b),
    λ y h f. first_or (λ z. p z ≡ true → is_lt (R z b) ≡ false) x y xs (x == y) refl h (λ f. absurd (true≢false (sym f ∙ fails))) (λ there f. rest.2 y there f) f,
  )

  one_more : (x : ℕ) (xs : List ℕ) (m : Option ℕ) → p x ≡ true → IsLeastOf R p xs m → IsLeastOf R p (x ∷ xs) (Some (option_map_or (λ y. cond (is_lt (R y x)) y x) m x))
  one_more x xs None passes rest = after_none x xs passes rest
  one_more x xs (Some b) passes rest = after_some x b xs (is_lt (R b x)) refl passes rest

  pub least_of : (xs : List ℕ) → IsLeastOf R p xs (least R (filter p xs))
  least_of [] = λ y h. cc
  least_of (x ∷ xs) =
      elim (p x) as (λ t. p x ≡ t → IsLeastOf R p (x ∷ xs) (least R (cond t (x ∷ filter p xs) (filter p xs)))) [
        | true ↦ λ e. one_more x xs (least R (filter p xs)) e (least_of xs)
        | false ↦ λ e. passed_over x xs (least R (filter p xs)) e (least_of xs)
      ] refl

-- `least_of` for a total order
pub least-bears : (R : ℕ → ℕ → Ordering) → IsTotalOrder R → (p : ℕ → Bool) (xs : List ℕ) → IsLeastOf R p xs (least R (filter p xs))
least-bears R total p xs = least_of R (ranks_by total (λ x. x)) p xs
