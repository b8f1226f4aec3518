-- Removing or changing an entry makes no table longer.
use Rattle.std.proofs.Common.{ℕ, ◌+◌, ◌≤◌, List, [], ◌∷◌, length, Option, Some, None, arith}
use Rattle.bm_base.specs.Maps.Map.{Map, by_number, entries, len, alter, remove, revise, revise_at}
use Rattle.bm_base.specs.Maps.Altered.{with_value, alter_values}

module _ {X : Type 0} where
  one_longer : (k : ℕ) (v : Option X) (es : List (ℕ × X)) → length (with_value k v es) ≤ length es + 1
  one_longer k None es = omega arith
  one_longer k (Some v) es = omega arith

  altered : (f : ℕ → X → Option X) (es : List (ℕ × X)) → length (alter_values f es) ≤ length es
  altered f [] = omega arith
  altered f (e ∷ es) = omega (arith, altered f es, one_longer e.0 (f e.0 e.1) (alter_values f es))

  len-alter : (m : Map by_number X) (f : ℕ → X → Option X) → len (alter m f) ≤ len m
  unfolding len entries alter
  len-alter m f = altered f m.list

  pub len-remove : (m : Map by_number X) (k : ℕ) → len (remove m k) ≤ len m
  unfolding remove
  len-remove m k = len-alter m _

  pub len-revise_at : (m : Map by_number X) (k : ℕ) (f : X → X) → len (revise_at m k f) ≤ len m
  unfolding revise_at revise
  len-revise_at m k f = len-alter m _
