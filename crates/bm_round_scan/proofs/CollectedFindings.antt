-- The sorted findings of different blocks are all findings, each once, if no other block has any.
use Rattle.std.specs.Prelude.{◌≡◌, ℕ, Bool, true, false, ◌==◌, List, [], ◌∷◌, ◌++◌}
use Rattle.std.specs.List.{flat_map, list_any, IsDistinct, AllByRecursion}
use Rattle.std.proofs.Common.{inl, inr, sym, ap, ◌∙◌, ne_eqb}
use Rattle.std.proofs.lemmas.List.Folds.{list_any-append}
use Rattle.std.proofs.lemmas.Bool.{or_left, or_right}
use Rattle.bm_base.specs.Maps.Map.{Order}
use Rattle.bm_maps.specs.SlotLists.{IsMember, Distinct}
use Rattle.bm_base.proofs.ForEach.{Each, each_of, each_then, each_appended, each_flat}
use Rattle.bm_parts.specs.Findings.{IsGathered}
use Rattle.bm_round_scan.specs.BlockFindings.{IsInOrder}
use Rattle.bm_round_scan.proofs.SortedElements.{tie, gathered_sorted}

pub each_by_recursion : {X : Type 0} (P : X → Type 0) (xs : List X) → Each P xs → AllByRecursion P xs
each_by_recursion P [] h = tt
each_by_recursion P (x ∷ xs) h = (h.0, each_by_recursion P xs h.1)

module _ {X : Type 0} (e : X → X → Bool) where
  all_appended : (P : X → Type 0) (xs ys : List X) → AllByRecursion P xs → Each P ys → AllByRecursion P (xs ++ ys)
  all_appended P [] ys h g = each_by_recursion P ys g
  all_appended P (x ∷ xs) ys h g = (h.0, all_appended P xs ys h.1 g)

  distinct_appended : (xs ys : List X) → IsDistinct e xs → IsDistinct e ys → Each (λ x. Each (λ y. e x y ≡ false) ys) xs → IsDistinct e (xs ++ ys)
  unfolding IsDistinct
  distinct_appended [] ys d g apart = g
  distinct_appended (x ∷ xs) ys d g apart = (all_appended (λ y. e x y ≡ false) xs ys d.0 apart.0, distinct_appended xs ys d.1 g apart.1)

-- each block's list has exactly the elements of the block, each once
pub record IsListed {K X : Type 0} (o : Order K) (key : X → K) (block : X → ℕ) (P : X → Type 0) (f : ℕ → List X) : Type 0 where
  pub differ : (x y : X) → (block x == block y) ≡ false → tie o key x y ≡ false
  pub of_block : (b : ℕ) → Each (λ x. block x ≡ b) (f b)
  pub apart : (b : ℕ) → IsDistinct (tie o key) (f b)
  pub only : (b : ℕ) → Each P (f b)
  pub all : (x : X) → P x → list_any (tie o key x) (f (block x)) ≡ true

module _ {K X : Type 0} (o : Order K) (key : X → K) (block : X → ℕ) (P : X → Type 0) (f : ℕ → List X) (is : IsListed o key block P f) where
  elsewhere : (b : ℕ) (bs : List ℕ) → (IsMember b bs → ⊥) → Each (λ y. (b == block y) ≡ false) (flat_map f bs)
  elsewhere b [] none = tt
  elsewhere b (c ∷ bs) none =
      each_appended (λ y. (b == block y) ≡ false) (f c) (flat_map f bs)
      (each_then (λ y. block y ≡ c) (λ y. (b == block y) ≡ false) (f c) (is.of_block c) (λ y at. ne_eqb b (block y) (λ same. none (inl (same ∙ at)))))
      (elsewhere b bs (λ h. none (inr h)))

  all_apart : (bs : List ℕ) → Distinct bs → IsDistinct (tie o key) (flat_map f bs)
  unfolding IsDistinct
  all_apart [] d = tt
  all_apart (b ∷ bs) d =
      distinct_appended (tie o key) (f b) (flat_map f bs) (is.apart b) (all_apart bs d.1)
      (each_then (λ x. block x ≡ b) (λ x. Each (λ y. tie o key x y ≡ false) (flat_map f bs)) (f b) (is.of_block b)
      (λ x at. each_then (λ y. (b == block y) ≡ false) (λ y. tie o key x y ≡ false) (flat_map f bs) (elsewhere b bs d.0) (λ y other. is.differ x y (ap (λ c. c == block y) at ∙ other))))

  any_there : (t : X → Bool) (b : ℕ) (bs : List ℕ) → IsMember b bs → list_any t (f b) ≡ true → list_any t (flat_map f bs) ≡ true
  any_there t b [] there h = absurd there
  any_there t b (c ∷ bs) there h =
      list_any-append t (f c) (flat_map f bs)
      ∙ elim there [
        | inl same ↦ or_left (list_any t (f c)) (list_any t (flat_map f bs)) (ap (λ d. list_any t (f d)) (sym same) ∙ h)
        | inr later ↦ or_right (list_any t (f c)) (list_any t (flat_map f bs)) (any_there t b bs later h)
      ]

  -- the findings of different blocks, sorted, are the gathered list, if no other block has findings
  pub gathered_of : (bs : List ℕ) (ys : List X) → Distinct bs → ((x : X) → P x → IsMember (block x) bs) → IsInOrder o key (flat_map f bs) ys → IsGathered o key P ys
  gathered_of bs ys d covers order =
      gathered_sorted o key P (flat_map f bs) ys order (all_apart bs d) (each_flat P f bs (each_of (λ b. Each P (f b)) bs is.only))
      (λ x p. any_there (tie o key x) (block x) bs (covers x p) (is.all x p))
