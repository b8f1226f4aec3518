-- The different numbers of a list, up to two.
use Rattle.std.specs.Prelude.{ℕ, Bool, true, false}
use Rattle.std.specs.declared.cmp.Ordering.{Ordering}
use Rattle.std.specs.declared.cmp.Ordering.TheVariants.{Less, Equal, Greater}
use Rattle.std.specs.Ordering.{nat_cmp}
use Rattle.bm_place.specs.declared.up_to_two.UpToTwo.{UpToTwo}
use Rattle.bm_place.specs.declared.up_to_two.UpToTwo.TheVariants.{Nothing, One, Two, More}

-- the set of two numbers, by how they compare
abbrev pub two_of : Ordering → ℕ → ℕ → UpToTwo
two_of Less n p = Two n p
two_of Equal n p = One p
two_of Greater n p = Two p n

-- the set of three numbers, of which p is less than q, by how the third compares to p and to q
abbrev pub three_of : Ordering → Ordering → ℕ → ℕ → UpToTwo
three_of Equal _ p q = Two p q
three_of Greater Equal p q = Two p q
three_of _ _ p q = More

-- adds a number, which may be in the set
abbrev pub with_number : UpToTwo → ℕ → UpToTwo
with_number Nothing n = One n
with_number (One p) n = two_of (nat_cmp n p) n p
with_number (Two p q) n = three_of (nat_cmp n p) (nat_cmp n q) p q
with_number More n = More

-- whether it is exactly one
abbrev pub is_one : UpToTwo → Bool
is_one (One p) = true
is_one _ = false

-- whether they are exactly two
abbrev pub are_two : UpToTwo → Bool
are_two (Two p q) = true
are_two _ = false
