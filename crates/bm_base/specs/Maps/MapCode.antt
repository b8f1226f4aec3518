-- The code of a map, from those of its keys and of its values.
use Rattle.std.specs.Prelude.{◌≡◌, List, T}
use Rattle.std.specs.FinMap.{is_sorted}
use Rattle.std.specs.Coded.{Coded, coded×, coded_list}
use base.Stored.{coded_via}
use mathlib.Core.HLevel.{Σ_prop_path}
use lib.Dec.{T_prop}
use Rattle.bm_base.specs.Maps.Map.{Map, Order}

module _ {K X : Type 0} {o : Order K} where
  -- maps with the same entries are equal
  pub same_entries_map : (m n : Map o X) → m.list ≡ n.list → m ≡ n
  same_entries_map m n e =
      let both : ◌≡◌ {A = (es : List (K × X)) × T (is_sorted o.cmp es)} (m.list, m.sorted) (n.list, n.sorted) = Σ_prop_path (λ es. T_prop _) e in
      λ i. record { list = (both i).0; sorted = (both i).1 }

  abbrev pub code : Coded K → Coded X → Coded (Map o X)
  code k x = coded_via (coded_list (coded× k x)) (λ m. m.list) same_entries_map
