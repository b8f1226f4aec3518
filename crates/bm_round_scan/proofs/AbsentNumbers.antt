-- A number between two adjacent ones of a sorted list is not in the list.
use Rattle.std.proofs.Common.{◌≡◌, ℕ, ◌-◌, ◌<◌, ◌≤◌, false, List, length, get_or, inl, inr, arith}
use Rattle.std.specs.Prelude.{◌⊎◌, ◌==◌}
use Rattle.std.specs.List.Sorted.{IsNonDecreasing}
use Rattle.std.proofs.lemmas.Bool.{ne_eqb}
use Rattle.std.proofs.lemmas.List.Folds.{list_any_none}
use Rattle.std.proofs.lemmas.List.Elements.{All-from_get_or}
use Rattle.bm_base.specs.Maps.Lists.{has}

module _ (xs : List ℕ) (x at : ℕ) (up : IsNonDecreasing xs) where
  lesser : (at ≡ 0) ⊎ (get_or xs (at - 1) 0 < x) → at ≤ length xs → (k : ℕ) → k < at → get_or xs k 0 < x
  lesser (inl none) within k before = absurd (omega (arith, none, before))
  lesser (inr less) within k before =
      let ascends : get_or xs k 0 ≤ get_or xs (at - 1) 0 = up k (at - 1) 0 (omega (arith, before)) (omega (arith, before, within)) in
      omega (arith, ascends, less)

  greater : (length xs ≤ at) ⊎ (x < get_or xs at 0) → (k : ℕ) → at ≤ k → k < length xs → x < get_or xs k 0
  greater (inl none) k behind within = absurd (omega (arith, none, behind, within))
  greater (inr more) k behind within =
      let ascends : get_or xs at 0 ≤ get_or xs k 0 = up at k 0 behind within in
      omega (arith, ascends, more)

  pub missing_between : (at ≡ 0) ⊎ (get_or xs (at - 1) 0 < x) → (length xs ≤ at) ⊎ (x < get_or xs at 0) → at ≤ length xs → has xs x ≡ false
  missing_between before behind within =
      list_any_none (λ y. y == x) xs (All-from_get_or (λ y. (y == x) ≡ false) xs 0 (λ k h.
      ne_eqb (get_or xs k 0) x (λ same.
      grind (arith, same, λ (lt : k < at). lesser before within k lt, λ (le : at ≤ k). greater behind k le h))))
