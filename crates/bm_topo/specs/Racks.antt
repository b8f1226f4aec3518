-- The number of nodes on each rack: what a topology counts.
use Rattle.std.specs.Prelude.{◌≡◌, ℕ, zero, suc, Bool, ◌==◌, nat_lt, if◌then◌else◌, ◌-◌, List, [], ◌∷◌, length, count_by, Option, Some, None}
use Rattle.bm_base.specs.Words.{Map, by_number, entries, get, remove, revise_at, values, distinct}

-- the racks of the nodes
abbrev pub racks_of : Map by_number ℕ → List ℕ
racks_of nodes = values (entries nodes)

-- the number of nodes on rack r
unfoldable pub on_rack : Map by_number ℕ → ℕ → ℕ
on_rack nodes r = count_by (λ x. x == r) (racks_of nodes)

abbrev pub positive_or_none : ℕ → Option ℕ
positive_or_none zero = None
positive_or_none (suc n) = Some (suc n)

-- `racks` has exactly the racks with nodes, each with the number of its nodes
abbrev pub CountsRacks : Map by_number ℕ → Map by_number ℕ → Type 0
CountsRacks racks nodes = (r : ℕ) → get racks r ≡ positive_or_none (on_rack nodes r)

-- whether nodes are on two racks or more
unfoldable pub is_multi : Map by_number ℕ → Bool
is_multi nodes = nat_lt 1 (length (distinct (racks_of nodes)))

-- the rack of the first node that is not n
abbrev pub first_other_rack : ℕ → List (ℕ × ℕ) → Option ℕ
first_other_rack n [] = None
first_other_rack n (e ∷ es) = if e.0 == n then first_other_rack n es else Some e.1

-- the counts, once one of n nodes has left rack r
unfoldable pub without_one : Map by_number ℕ → ℕ → ℕ → Map by_number ℕ
without_one racks r n = if n == 1 then remove racks r else revise_at racks r (λ _. n - 1)
