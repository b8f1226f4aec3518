-- An entry at an index of a map is the map's entry at its key.
use Rattle.std.specs.Prelude.{slice_get}
use Rattle.std.proofs.Common.{◌≡◌, ℕ, zero, suc, List, [], ◌∷◌, Some, subst}
use Rattle.std.proofs.lemmas.Option.{same_Some}
use Rattle.bm_base.specs.Maps.Map.{Map, by_number, get, entries}
use Rattle.bm_base.proofs.ForEach.{Each}
use Rattle.bm_base.proofs.MapEntries.{each_entry}

each_at : {X : Type 0} (P : X → Type 0) (xs : List X) (i : ℕ) (x : X) → Each P xs → slice_get xs i ≡ Some x → P x
each_at P [] i x h at = cc
each_at P (y ∷ xs) zero x h at = subst P (same_Some y x at) h.0
each_at P (y ∷ xs) (suc i) x h at = each_at P xs i x h.1 at

pub get_at : {X : Type 0} (m : Map by_number X) (i : ℕ) (e : ℕ × X) → slice_get (entries m) i ≡ Some e → get m e.0 ≡ Some e.1
get_at m i e at = each_at (λ x. get m x.0 ≡ Some x.1) (entries m) i e (each_entry m) at
