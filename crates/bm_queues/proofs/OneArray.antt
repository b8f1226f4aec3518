-- A read of one level's array gives its slots, and a change of it changes no other array.
use Rattle.std.proofs.Common.{◌≡◌, ℕ, ◌+◌, ◌<◌, ◌≤◌, List, [], length, get_or, set, take, vec_capacity, subst, sym, ap, ◌∙◌, arith}
use Rattle.std.specs.List.{All}
use Rattle.std.specs.declared.vec.Vec.{Vec}
use Rattle.std.proofs.Math.Seq.{map-set_same}
use Rattle.std.proofs.lemmas.List.{get_or-map, map-set, take_more_set}
use Rattle.std.proofs.lemmas.List.Elements.{All-get_or, All-set, All-push}
use Rattle.bm_queues.specs.DenseLevels.{arrays_in, HaveCapacity}

module _ {Z : Type 0} (arrays : List (Vec ℕ Z)) (i : ℕ) (v : Vec ℕ Z) (low : i < length arrays) (is : v ≡ get_or arrays i v) where
  pub array-at : get_or (arrays_in arrays) i [] ≡ v.items
  array-at = get_or-map (λ (w : Vec ℕ Z). w.items) arrays i v [] low ∙ ap (λ (w : Vec ℕ Z). w.items) (sym is)

  pub capacity-at : (bound : ℕ) → HaveCapacity arrays bound → bound ≤ vec_capacity v
  capacity-at bound capacity = subst (λ (w : Vec ℕ Z). bound ≤ vec_capacity w) (sym is) (All-get_or (λ (w : Vec ℕ Z). bound ≤ vec_capacity w) arrays i v low capacity)

  module _ (w : Vec ℕ Z) where
    pub arrays-set : arrays_in (set arrays i w) ≡ set (arrays_in arrays) i w.items
    arrays-set = map-set (λ (u : Vec ℕ Z). u.items) arrays i w

    pub arrays-same : w.items ≡ v.items → arrays_in (set arrays i w) ≡ arrays_in arrays
    arrays-same same = map-set_same (λ (u : Vec ℕ Z). u.items) arrays i w v (same ∙ ap (λ (u : Vec ℕ Z). u.items) is)

    pub capacity-set : (bound : ℕ) → vec_capacity v ≤ vec_capacity w → HaveCapacity arrays bound → HaveCapacity (set arrays i w) bound
    capacity-set bound wider capacity =
        let here = capacity-at bound capacity in
        All-set (λ (u : Vec ℕ Z). bound ≤ vec_capacity u) arrays i w (omega (arith, here, wider)) capacity

    pub capacity-more : (bound : ℕ) → bound ≤ vec_capacity w → HaveCapacity (take i arrays) bound → HaveCapacity (take (i + 1) (set arrays i w)) bound
    capacity-more bound here capacity =
        let P : Vec ℕ Z → Type 0 = λ (u : Vec ℕ Z). bound ≤ vec_capacity u in
        subst (λ (us : List (Vec ℕ Z)). All P us) (sym (take_more_set arrays i w low)) (All-push P (take i arrays) w capacity here)
