-- Altered entries stay in the order of their keys: what the field `sorted` of an altered map needs.
use Rattle.std.specs.Prelude.{List, [], ◌∷◌, Option, Some, None, T}
use Rattle.std.specs.declared.cmp.Ordering.{Ordering}
use Rattle.std.specs.Ordering.{is_lt}
use Rattle.std.specs.FinMap.{is_sorted}
use Rattle.std.specs.FinMap.Entries.{below_all}
use Rattle.bm_base.specs.Maps.Conjunction.{both, first, second}
use Rattle.bm_base.specs.Maps.Altered.{with_value, alter_values}

module _ {K X : Type 0} (R : K → K → Ordering) where
  below_with_value : (x k : K) (v : Option X) (es : List (K × X)) → T (is_lt (R x k)) → T (below_all R x es) → T (below_all R x (with_value k v es))
  below_with_value x k None es p h = h
  below_with_value x k (Some v) es p h = both _ _ p h

  below_alter : (f : K → X → Option X) (x : K) (es : List (K × X)) → T (below_all R x es) → T (below_all R x (alter_values f es))
  below_alter f x [] h = tt
  below_alter f x (e ∷ es) h = below_with_value x e.0 (f e.0 e.1) (alter_values f es) (first _ _ h) (below_alter f x es (second _ _ h))

  sorted_with_value : (k : K) (v : Option X) (es : List (K × X)) → T (below_all R k es) → T (is_sorted R es) → T (is_sorted R (with_value k v es))
  sorted_with_value k None es b h = h
  sorted_with_value k (Some v) es b h = both _ _ b h

  -- altered entries stay in order
  pub is_sorted-alter : (f : K → X → Option X) (es : List (K × X)) → T (is_sorted R es) → T (is_sorted R (alter_values f es))
  is_sorted-alter f [] h = tt
  is_sorted-alter f (e ∷ es) h = sorted_with_value e.0 (f e.0 e.1) (alter_values f es) (below_alter f e.0 es (first _ _ h)) (is_sorted-alter f es (second _ _ h))
