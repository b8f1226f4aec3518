-- A map keeps keys below 2^32 through each change, if a new key is below 2^32.
use Rattle.std.proofs.Common.{◌≡◌, ℕ, ◌<◌, ◌^◌, Bool, List, [], ◌∷◌, Option, Some, None, sym, subst, Less, Equal, Greater}
use Rattle.std.specs.List.{AllByRecursion}
use Rattle.std.specs.Ordering.{nat_cmp}
use Rattle.std.specs.FinMap.{put}
use Rattle.std.specs.FinMap.Entries.{by_order}
use Rattle.bm_base.specs.Maps.Map.{Map, by_number, entries, empty, insert, alter, keep, remove, revise, revise_at}
use Rattle.bm_base.specs.Maps.Altered.{with_value, alter_values}
use Rattle.bm_topo.specs.Keys.{HasSmallKeys}

module _ {X : Type 0} where
  all_put : (k : ℕ) (v : X) (es : List (ℕ × X)) → k < 2 ^ 32 → AllByRecursion (λ e. e.0 < 2 ^ 32) es → AllByRecursion (λ e. e.0 < 2 ^ 32) (put nat_cmp k v es)
  all_put k v [] lt h = (lt, tt)
  all_put k v (e ∷ es) lt h =
      elim (nat_cmp k e.0) as (λ r. AllByRecursion (λ x. x.0 < 2 ^ 32) (by_order r ((k, v) ∷ e ∷ es) ((e.0, v) ∷ es) (e ∷ put nat_cmp k v es))) [
        | Less ↦ (lt, h)
        | Equal ↦ h
        | Greater ↦ (h.0, all_put k v es lt h.1)
      ]

  pub small_keys_insert : (m : Map by_number X) (k : ℕ) (v : X) → k < 2 ^ 32 → HasSmallKeys m → HasSmallKeys (insert m k v)
  unfolding entries insert
  small_keys_insert m k v lt h = all_put k v m.list lt h

  pub small_keys-empty : (m : Map by_number X) → m ≡ empty → HasSmallKeys m
  unfolding entries empty
  small_keys-empty m e = subst (λ n. HasSmallKeys n) (sym e) tt

  all_with_value : (k : ℕ) (v : Option X) (es : List (ℕ × X)) → k < 2 ^ 32 → AllByRecursion (λ e. e.0 < 2 ^ 32) es → AllByRecursion (λ e. e.0 < 2 ^ 32) (with_value k v es)
  all_with_value k None es lt h = h
  all_with_value k (Some v) es lt h = (lt, h)

  all_altered : (f : ℕ → X → Option X) (es : List (ℕ × X)) → AllByRecursion (λ e. e.0 < 2 ^ 32) es → AllByRecursion (λ e. e.0 < 2 ^ 32) (alter_values f es)
  all_altered f [] h = h
  all_altered f (e ∷ es) h = all_with_value e.0 (f e.0 e.1) (alter_values f es) h.0 (all_altered f es h.1)

  small_keys-alter : (m : Map by_number X) (f : ℕ → X → Option X) → HasSmallKeys m → HasSmallKeys (alter m f)
  unfolding entries alter
  small_keys-alter m f h = all_altered f m.list h

  pub small_keys-keep : (m : Map by_number X) (p : ℕ → X → Bool) → HasSmallKeys m → HasSmallKeys (keep m p)
  unfolding keep
  small_keys-keep m p h = small_keys-alter m _ h

  pub small_keys-remove : (m : Map by_number X) (k : ℕ) → HasSmallKeys m → HasSmallKeys (remove m k)
  unfolding remove
  small_keys-remove m k h = small_keys-alter m _ h

  pub small_keys-revise_at : (m : Map by_number X) (k : ℕ) (f : X → X) → HasSmallKeys m → HasSmallKeys (revise_at m k f)
  unfolding revise_at revise
  small_keys-revise_at m k f h = small_keys-alter m _ h
