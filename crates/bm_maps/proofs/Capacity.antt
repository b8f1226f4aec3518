-- The table that a sorted vector represents has the vector's capacity.
use Rattle.std.proofs.Common.{◌≡◌, ℕ, ◌-◌, ◌≤◌, List, is_some, IsTrue, T, arith, sym, ap, subst, ◌∙◌, vec_len, vec_capacity}
use Rattle.std.specs.declared.vec.Vec.{Vec}
use Rattle.std.specs.FinMap.{is_sorted, find}
use Rattle.std.specs.Ordering.{nat_cmp}
use Rattle.bm_base.specs.Maps.Map.{Map, by_number, contains_key, get}
use Rattle.bm_base.specs.Maps.OfSorted.{of_sorted}
use Rattle.bm_maps.specs.Table.{Table, capacity}
use Rattle.bm_base.proofs.OfSorted.{len-of_sorted, get-of_sorted}

module _ {X Z : Type 0} where
  abbrev pub table_of : Vec (ℕ × X) Z → Table X
  table_of v = record { map = of_sorted v.items; spare = vec_capacity v - vec_len v }

  -- the table has capacity for all entries of the vector
  pub capacity-table_of : (v : Vec (ℕ × X) Z) → T (is_sorted nat_cmp v.items) → capacity (table_of v) ≡ vec_capacity v
  capacity-table_of v h = let e = len-of_sorted by_number v.items h in omega (arith, e, v.ok.0, v.ok.1)

  module _ (v w : Vec (ℕ × X) Z) (t : Table X) (before : T (is_sorted nat_cmp v.items)) (after : T (is_sorted nat_cmp w.items)) (is : table_of v ≡ t) where
    pub same_capacity : vec_capacity w ≡ vec_capacity v → capacity (table_of w) ≡ capacity t
    same_capacity e = capacity-table_of w after ∙ e ∙ sym (capacity-table_of v before) ∙ ap capacity is

    pub no_less_capacity : vec_capacity v ≤ vec_capacity w → capacity t ≤ capacity (table_of w)
    no_less_capacity more = let new = capacity-table_of w after in let old = sym (ap capacity is) ∙ capacity-table_of v before in omega (arith, new, old, more)

-- a key that the map knows is found in the vector
pub found_there : {X : Type 0} (es : List (ℕ × X)) (m : Map by_number X) (k : ℕ) → T (is_sorted nat_cmp es) → of_sorted es ≡ m → IsTrue (contains_key m k) → IsTrue (is_some (find nat_cmp k es))
found_there es m k h is known = subst (λ v. IsTrue (is_some v)) (sym (ap (λ n. get n k) is) ∙ get-of_sorted by_number es k h) known
