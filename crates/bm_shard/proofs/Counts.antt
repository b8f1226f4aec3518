-- Changing marks adds and removes no replica; a filter shortens the map by what it removes.
use Rattle.std.proofs.Common.{◌≡◌, ◌+◌, ◌-◌, fold, Bool, true, false, cond, not, List, [], ◌∷◌, Option, Some, is_some, count_by, None, refl, sym, ap, ◌∙◌, is_eq}
use Rattle.std.specs.Prelude.{option_map, option_and_then}
use Rattle.std.specs.FinMap.{find}
use Rattle.std.specs.Ordering.{eq_by_cmp}
use Rattle.std.proofs.lemmas.Cmp.{tied_itself}
use Rattle.bm_base.specs.declared.replica.Marks.{Marks}
use Rattle.bm_base.specs.declared.replica.ReplicaId.{ReplicaId}
use Rattle.bm_base.specs.Words.{Map, Order, get, entries, keep, revise, remove, len, by_replica, new_replicas}
use Rattle.bm_base.proofs.MapLaws.{same_map, get-revise, get-remove, get-keep}
use Rattle.bm_base.proofs.Differences.{none_new, none_came, some_left}
use Rattle.bm_base.proofs.MapEntries.{still_some}

none_missing : {K X : Type 0} (o : Order K) (es fs : List (K × X)) → ((q : K) → is_some (find o.cmp q es) ≡ true → is_some (find o.cmp q fs) ≡ true)
    → count_by (λ e. not (is_some (find o.cmp e.0 fs))) es ≡ 0
none_missing o [] fs h = refl
none_missing o (e ∷ es) fs h =
    let here : is_some (find o.cmp e.0 (e ∷ es)) ≡ true = ap (λ r. is_some (cond (is_eq r) (Some e.1) (find o.cmp e.0 es))) (tied_itself o.total e.0) in
    let rest : count_by (λ x. not (is_some (find o.cmp x.0 fs))) es ≡ 0 = none_missing o es fs (λ q found. h q (still_some (eq_by_cmp o.cmp q e.0) e.1 (find o.cmp q es) found)) in
    ap (λ b. fold (λ a x. a + cond (not (is_some (find o.cmp x.0 fs))) 1 0) (0 + cond (not b) 1 0) es) (h e.0 here) ∙ rest

pub same_replicas : (m : Map by_replica Marks) → new_replicas m m ≡ 0
unfolding new_replicas get entries
same_replicas m = none_missing by_replica m.list m.list (λ q h. h)

-- The numbers of replicas that came and went by each change in place.

pub none_by_revise : (m : Map by_replica Marks) (f : ReplicaId → Marks → Marks) → (new_replicas m (revise m f) ≡ 0) × (new_replicas (revise m f) m ≡ 0)
unfolding new_replicas
none_by_revise m f = (
  none_new m (revise m f) (λ q x e. same_there (f q) (get m q) (ap is_some (sym (get-revise m f q) ∙ e))),
  none_new (revise m f) m (λ q x e. ap is_some (get-revise m f q) ∙ ap (λ v. is_some (option_map (f q) v)) e),
)
  where
    same_there : (g : Marks → Marks) (v : Option Marks) → is_some (option_map g v) ≡ true → is_some v ≡ true
    same_there g None h = cc
    same_there g (Some x) h = refl

pub gone_by_keep : (m : Map by_replica Marks) (p : ReplicaId → Bool) → (new_replicas m (keep m (λ q _. p q)) ≡ 0) × (new_replicas (keep m (λ q _. p q)) m ≡ len m - len (keep m (λ q _. p q)))
unfolding new_replicas
gone_by_keep m p = (none_came m p, some_left m p)

-- a removal of a key keeps all others
pub removed_is_kept : (m : Map by_replica Marks) (k : ReplicaId) → remove m k ≡ keep m (λ q _. not (eq_by_cmp by_replica.cmp q k))
removed_is_kept m k =
    same_map (remove m k) (keep m (λ q _. not (eq_by_cmp by_replica.cmp q k))) (λ q.
    get-remove m k q ∙ either (eq_by_cmp by_replica.cmp q k) (get m q) ∙ sym (get-keep m (λ j _. not (eq_by_cmp by_replica.cmp j k)) q))
  where
    either : (b : Bool) (v : Option Marks) → cond b None v ≡ option_and_then (λ x. cond (not b) (Some x) None) v
    either true None = refl
    either true (Some x) = refl
    either false None = refl
    either false (Some x) = refl

pub gone_by_remove : (m : Map by_replica Marks) (k : ReplicaId) → (new_replicas m (remove m k) ≡ 0) × (new_replicas (remove m k) m ≡ len m - len (remove m k))
gone_by_remove m k = rw (removed_is_kept m k) (gone_by_keep m (λ q. not (eq_by_cmp by_replica.cmp q k)))
