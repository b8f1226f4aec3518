-- `retain` with a pure test is a filter, and a refill of a whole list leaves what was written.
use Rattle.std.specs.Prelude.{◌≡◌, ℕ, Bool, cond, List, [], ◌∷◌, ◌++◌, filter, length, take}
use Rattle.std.specs.List.{refill}
use Rattle.std.specs.List.Retain.{RetainsInTurn}
use Rattle.std.proofs.Common.{ap, subst, ◌∙◌, arith}
use Rattle.std.proofs.lemmas.List.{take_all, drop_all, append-nil}
use Rattle.smallvec.specs.SmallVec.{SmallVec}

-- what `retain` keeps, if the closure has no state and changes no element
module _ {S X : Type 0} (R : S → X → Bool → S → X → Type 0) (test : X → Bool) (s : S) (says : (x : X) (b : Bool) (t : S) (y : X) → R s x b t y → (b ≡ test x) × (y ≡ x) × (t ≡ s)) where
  pub filter-RetainsInTurn : (xs ys : List X) → RetainsInTurn R s xs ys → ys ≡ filter test xs
  filter-RetainsInTurn [] ys h = h
  filter-RetainsInTurn (x ∷ xs) ys h =
      let turn = says x h.0 h.1 h.2 h.3 in
      let rest = filter-RetainsInTurn xs h.4 (subst (λ t. RetainsInTurn R t xs h.4) turn.2 h.5) in
      h.6 ∙ (λ j. cond (turn.0 j) (turn.1 j ∷ rest j) (rest j))

-- a write of as many elements is what was written
pub refill-same : {X : Type 0} (n : ℕ) (xs ws : List X) → length xs ≡ n → length ws ≡ n → refill n xs ws ≡ ws
refill-same n xs ws here same =
    ap (λ rest. take n (ws ++ rest)) (drop_all (length ws) xs (omega (arith, here, same))) ∙ ap (take n) (append-nil ws) ∙ take_all n ws (omega (arith, same))

-- a vector with these elements and the capacity that it had
pub same_vec : {X : Type 0} (v w : SmallVec X) (xs : List X) → v.items ≡ xs → v.capacity ≡ w.capacity → v ≡ record w { items = xs }
same_vec v w xs items capacity = λ j. record { items = items j; capacity = capacity j }
