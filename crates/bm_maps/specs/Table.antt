-- What contracts see of a map from numbers that can reserve capacity.
use Rattle.std.specs.Prelude.{ℕ, ◌+◌, refl}
use Rattle.std.specs.Coded.{Coded, code_by, coded×, coded_ℕ}
use Rattle.bm_base.specs.Maps.Map.{Map, by_number, len}
use Rattle.bm_base.specs.Maps.MapCode.{code}

pub record Table (X : Type 0) : Type 0 where
  pub map : Map by_number X
  -- the number of further entries that take no memory
  pub spare : ℕ

-- the capacity in entries, used and spare: the same before and after a call that takes no memory
abbrev pub capacity : {X : Type 0} → Table X → ℕ
capacity t = len t.map + t.spare

abbrev pub coded_table : {X : Type 0} → Coded X → Coded (Table X)
coded_table {X} x = code_by (Map by_number X × ℕ) (coded× (code coded_ℕ x) coded_ℕ) (λ t. (t.map, t.spare)) (λ p. record { map = p.0; spare = p.1 }) (λ _. refl)
