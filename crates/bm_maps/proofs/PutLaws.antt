-- Setting the value at a key's index, or inserting the key there if it is new, is a map's `put`.
use Rattle.std.proofs.Common.{◌≡◌, ℕ, ◌<◌, ◌≤◌, List, [], ◌∷◌, length, set, get_or, arith, refl, sym, ap, subst, ◌∙◌, Ordering, Less, Equal, Greater}
use Rattle.std.specs.Prelude.{insert}
use Rattle.std.specs.FinMap.{put}
use Rattle.std.specs.FinMap.Entries.{by_order}
use Rattle.std.proofs.lemmas.List.{get_or_read}
use Rattle.bm_maps.specs.KeyIndex.{key_index, distance_to}

module _ {K X : Type 0} (R : K → K → Ordering) where
  pub put-set : (k : K) (v : X) (es : List (K × X)) (d : K × X) → key_index R k es < length es → R k (get_or es (key_index R k es) d).0 ≡ Equal
      → set es (key_index R k es) ((get_or es (key_index R k es) d).0, v) ≡ put R k v es
  put-set k v [] d h is = absurd (omega arith)
  put-set k v (e ∷ es) d h is =
      elim (R k e.0) as (λ r. R k e.0 ≡ r → distance_to r (key_index R k es) < length (e ∷ es) → R k (get_or (e ∷ es) (distance_to r (key_index R k es)) d).0 ≡ Equal
      → set (e ∷ es) (distance_to r (key_index R k es)) ((get_or (e ∷ es) (distance_to r (key_index R k es)) d).0, v) ≡ by_order r ((k, v) ∷ e ∷ es) ((e.0, v) ∷ es) (e ∷ put R k v es)) [
        | Less ↦ λ p h is. cc
        | Equal ↦ λ p h is. refl
        | Greater ↦ λ p h is. ap (λ xs. e ∷ xs) (put-set k v es d (omega arith) is)
      ] refl h is

  pub put-insert : (k : K) (v : X) (es : List (K × X)) (d : K × X) → (key_index R k es < length es → R k (get_or es (key_index R k es) d).0 ≡ Equal → ⊥)
      → insert es (key_index R k es) (k, v) ≡ put R k v es
  put-insert k v [] d h = refl
  put-insert k v (e ∷ es) d h =
      elim (R k e.0) as (λ r. R k e.0 ≡ r → (distance_to r (key_index R k es) < length (e ∷ es) → R k (get_or (e ∷ es) (distance_to r (key_index R k es)) d).0 ≡ Equal → ⊥)
      → insert (e ∷ es) (distance_to r (key_index R k es)) (k, v) ≡ by_order r ((k, v) ∷ e ∷ es) ((e.0, v) ∷ es) (e ∷ put R k v es)) [
        | Less ↦ λ p h. refl
        | Equal ↦ λ p h. absurd (h (omega arith) p)
        | Greater ↦ λ p h. ap (λ xs. e ∷ xs) (put-insert k v es d (λ lt is. h (omega arith) is))
      ] refl h

  pub key_index-le : (k : K) (es : List (K × X)) → key_index R k es ≤ length es
  key_index-le k [] = omega arith
  key_index-le k (e ∷ es) = elim (R k e.0) as (λ r. distance_to r (key_index R k es) ≤ length (e ∷ es)) [
    | Less ↦ omega arith
    | Equal ↦ omega arith
    | Greater ↦ omega (arith, key_index-le k es)
  ]

  -- a write through two reads, at the index of the key, is a `put`
  pub put-set_read : (k : K) (v : X) (es : List (K × X)) (i : ℕ) (x y : K × X) → i ≡ key_index R k es → i < length es → x ≡ get_or es i x → y ≡ get_or es i y → R k y.0 ≡ Equal
      → set es i (x.0, v) ≡ put R k v es
  put-set_read k v es i x y is lt at_x at_y tie =
      let same : y ≡ x = get_or_read es i y lt at_y x ∙ sym at_x in
      let Goal : ℕ → Type 0 = λ j. j < length es → x ≡ get_or es j x → set es j (x.0, v) ≡ put R k v es in
      subst Goal (sym is) (λ lt at. rw at (put-set k v es x lt (ap (λ z. R k z.0) (sym (same ∙ at)) ∙ tie))) lt at_x

  pub put-insert_read : (k : K) (v : X) (es : List (K × X)) (i : ℕ) → i ≡ key_index R k es → (d : K × X) → (i < length es → R k (get_or es i d).0 ≡ Equal → ⊥) → insert es i (k, v) ≡ put R k v es
  put-insert_read k v es i is d apart =
      ap (λ j. insert es j (k, v)) is ∙ put-insert k v es d (let Goal : ℕ → Type 0 = λ j. j < length es → R k (get_or es j d).0 ≡ Equal → ⊥ in subst Goal is apart)
