-- The map that a sorted vector represents.
use Rattle.std.specs.Prelude.{◌≡◌, Bool, true, false, List, T}
use Rattle.std.specs.FinMap.{is_sorted}
use Rattle.std.proofs.Common.{refl, sym, subst}
use Rattle.bm_base.specs.Maps.Map.{Map, Order, empty}

module _ {K X : Type 0} {o : Order K} where
  -- the map with the entries es if they are sorted (b is true), else the map m
  unfoldable pub checked_list : (es : List (K × X)) (b : Bool) → is_sorted o.cmp es ≡ b → Map o X → Map o X
  checked_list es true e m = record { list = es; sorted = subst T (sym e) tt }
  checked_list es false e m = m

  -- the map with these entries, if their keys are ascending; else the empty map
  unfoldable pub of_sorted : List (K × X) → Map o X
  of_sorted es = checked_list es _ refl empty
