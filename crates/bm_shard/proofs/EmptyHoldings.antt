-- Holdings without replicas meet the laws that a cluster sets for replicas.
use Rattle.std.proofs.Common.{◌≡◌, Option, Some, None, sym, ap, subst, ◌∙◌}
use Rattle.std.specs.Prelude.{IsSome}
use Rattle.std.proofs.lemmas.Bool.{false≢true}
use Rattle.bm_base.specs.declared.replica.ReplicaId.{ReplicaId}
use Rattle.bm_base.specs.declared.replica.Marks.{Marks}
use Rattle.bm_base.specs.Words.{empty, get, Cluster, Holdings, by_replica}
use Rattle.bm_base.proofs.MapLaws.{get-empty}
use Rattle.bm_parts.specs.PlacedLaws.{IsPlaced}

module _ (C : Cluster) (H : Holdings) (none : H.replicas ≡ empty) where
  no_replica : (p : ReplicaId) → get H.replicas p ≡ None
  no_replica p = ap (λ m. get m p) none ∙ get-empty by_replica p

  no_such : (p : ReplicaId) → IsSome (get H.replicas p) → ⊥
  no_such p some = let P : Option Marks → Type 0 = λ o. IsSome o in false≢true (subst P (no_replica p) some)

  pub none_placed : IsPlaced C H
  none_placed = record {
    stored = λ p some. absurd (no_such p some);
    once = λ p q some other same. absurd (no_such p some);
    excess_is_good = λ p m e excess. absurd (none_some (sym (no_replica p) ∙ e));
  }
    where
      none_some : {m : Marks} → None ≡ Some m → ⊥
      none_some e = cc
