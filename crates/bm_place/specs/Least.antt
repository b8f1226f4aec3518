-- The least of the numbers that pass, by its properties.
use Rattle.std.specs.Prelude.{◌≡◌, ℕ, Bool, true, false, List, Option, Some, None}
use Rattle.std.specs.declared.cmp.Ordering.{Ordering}
use Rattle.std.specs.Ordering.{is_lt}
use Rattle.bm_base.specs.Maps.Lists.{has}

-- The result is the least, in the order R, of the numbers xs that pass p: it is one of them, and
-- none that passes comes before it. There is no result exactly if none passes.
abbrev pub IsLeastOf : (ℕ → ℕ → Ordering) → (ℕ → Bool) → List ℕ → Option ℕ → Type 0
IsLeastOf R p xs (Some x) = (p x ≡ true) × (has xs x ≡ true) × ((y : ℕ) → has xs y ≡ true → p y ≡ true → is_lt (R y x) ≡ false)
IsLeastOf R p xs None = (y : ℕ) → has xs y ≡ true → p y ≡ false
