-- The position of an iteration over a list of slots by `next`: at a slot, or at the end.
use Rattle.std.specs.Prelude.{◌≡◌, ◌≢◌, ℕ, ◌==◌, List, [], ◌∷◌, Option, Some, None, if◌then◌else◌}
use Rattle.std.specs.Option.{IfSome}
use Rattle.bm_maps.specs.SlotLists.{IsMember}

-- the remaining slots of an iteration: from that slot on, in order
abbrev pub slots_from : List ℕ → Option ℕ → List ℕ
slots_from xs None = []
slots_from [] (Some x) = []
slots_from (y ∷ ys) (Some x) = if y == x then y ∷ ys else slots_from ys (Some x)

-- slot x was passed: the iteration is not at it, and it does not remain
abbrev pub IsPast : ℕ → Option ℕ → List ℕ → Type 0
IsPast x at xs = (at ≢ Some x) × (IsMember x (slots_from xs at) → ⊥)

-- the iteration is at a slot of the list, or at the end
abbrev pub IsOn : Option ℕ → List ℕ → Type 0
IsOn at xs = IfSome at (λ x. IsMember x xs)

-- the iteration goes from slot x of the list to the next, if there is one: x is passed, and the
-- slots after it remain
pub record GoesOn (x : ℕ) (next : Option ℕ) (xs : List ℕ) : Type 0 where
  pub on : IsOn next xs
  pub rest : slots_from xs (Some x) ≡ x ∷ slots_from xs next
  pub past : IsPast x next xs
