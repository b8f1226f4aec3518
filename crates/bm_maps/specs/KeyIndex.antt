-- The index of a key, known or not, in entries with ascending keys.
use Rattle.std.specs.Prelude.{◌≤◌, ℕ, suc, zero, List, [], ◌∷◌, length}
use Rattle.std.specs.Ordering.{nat_cmp}
use Rattle.std.specs.declared.cmp.Ordering.{Ordering}
use Rattle.std.specs.declared.cmp.Ordering.TheVariants.{Less, Equal, Greater}

abbrev pub distance_to : Ordering → ℕ → ℕ
distance_to Less n = zero
distance_to Equal n = zero
distance_to Greater n = suc n

-- the number of entries before the key's index
abbrev pub key_index : {K X : Type 0} → (K → K → Ordering) → K → List (K × X) → ℕ
key_index R k [] = zero
key_index R k (e ∷ es) = distance_to (R k e.0) (key_index R k es)

-- the index of a number is between these bounds, which are within the entries
abbrev pub IsWithin : {X : Type 0} → ℕ → ℕ → ℕ → List (ℕ × X) → Type 0
IsWithin low high key es = (low ≤ key_index nat_cmp key es) × (key_index nat_cmp key es ≤ high) × (high ≤ length es)
