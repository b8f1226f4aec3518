-- Holdings stay lawful if replicas or transfers leave and the others' storages keep their nodes.
use Rattle.std.proofs.Common.{◌≡◌, ℕ, ◌≤◌, Bool, true, false, not, Some, List, is_some, IsTrue, refl, sym, ap, ◌∙◌, true≢false}
use Rattle.std.specs.Prelude.{◌==◌, if◌then◌else◌}
use Rattle.std.specs.Ordering.{eq_by_cmp, nat_cmp}
use Rattle.std.proofs.lemmas.Bool.{not-true, not_from_false}
use Rattle.bm_base.specs.declared.replica.ReplicaId.{ReplicaId}
use Rattle.bm_base.specs.declared.replica.Marks.{Marks}
use Rattle.bm_base.specs.declared.replica.BlockInfo.{BlockInfo}
use Rattle.bm_base.specs.declared.event.Remaining.{Remaining}
use Rattle.bm_base.specs.Words.{Map, by_number, get, keep, remove, contains_key, Cluster, Holdings, by_replica, node_of, has_storage, drains, is_good, is_stray, register, heartbeat, without_node, without_storage, without_storages, remove_replica, drain, undrain, begin_drain, knows_storage}
use Rattle.bm_base.specs.declared.limits.TheConstants.{MAX_REPLICATION}
use Rattle.bm_base.specs.Promises.Lawful.{IsLawfulHoldings}
use Rattle.bm_base.proofs.MapLaws.{get-remove}
use Rattle.bm_parts.proofs.KeepLaws.{get-keep_there}
use Rattle.bm_base.proofs.Ties.{number_tie}
use Rattle.bm_base.proofs.Options.{there, is_there, not_taken}
use Rattle.bm_base.proofs.ForEach.{each_mapped, each_then, none_passes}
use Rattle.bm_base.proofs.MapEntries.{same_key, get_kept, get_removed, get_insert_all_elsewhere}
use Rattle.bm_base.proofs.Clusters.{same_node, as_known, same_siblings}
use Rattle.bm_base.proofs.ClusterEvents.{IsRegistrable, fresh, same_nodes}

-- G in D has only replicas and transfers that H has in C, marks aside, on storages that keep their
-- nodes
pub record IsRemainder (C D : Cluster) (H G : Holdings) : Type 0 where
  pub replicas : (p : ReplicaId) → is_some (get G.replicas p) ≡ true → is_some (get H.replicas p) ≡ true
  pub pending : (p : ReplicaId) → is_some (get G.pending p) ≡ true → is_some (get H.pending p) ≡ true
  pub replica_nodes : (p : ReplicaId) → is_some (get G.replicas p) ≡ true → node_of D p.storage ≡ node_of C p.storage
  pub pending_nodes : (p : ReplicaId) → is_some (get G.pending p) ≡ true → node_of D p.storage ≡ node_of C p.storage

-- the parts of the invariant that are about marks and blocks
pub record HasLawfulMarks (G : Holdings) : Type 0 where
  pub strays : (p : ReplicaId) (m : Marks) → get G.replicas p ≡ Some m → is_stray m.tag ≡ not (contains_key G.blocks p.block)
  pub excess_is_good : (p : ReplicaId) (m : Marks) → get G.replicas p ≡ Some m → IsTrue m.excess → IsTrue (is_good m.tag)
  pub pending_known : (p : ReplicaId) → is_some (get G.pending p) ≡ true → IsTrue (contains_key G.blocks p.block)
  pub replicated : (b : ℕ) (i : BlockInfo) → get G.blocks b ≡ Some i → (1 ≤ i.repl) × (i.repl ≤ MAX_REPLICATION)

pub marks_of : (C : Cluster) (H : Holdings) → IsLawfulHoldings C H → HasLawfulMarks H
marks_of C H L = record { strays = L.strays; excess_is_good = L.excess_is_good; pending_known = L.pending_known; replicated = L.replicated }

pub lawful_among : (C D : Cluster) (H G : Holdings) → IsLawfulHoldings C H → IsRemainder C D H G → HasLawfulMarks G → IsLawfulHoldings D G
lawful_among C D H G L A S = record {
  stored = λ p e. as_known C D p.storage (A.replica_nodes p e) (L.stored p (A.replicas p e));
  pending_stored = λ p e. as_known C D p.storage (A.pending_nodes p e) (L.pending_stored p (A.pending p e));
  once = λ p q e f same. same_siblings C D p.storage q.storage (A.replica_nodes p e) (A.replica_nodes q f) ∙ L.once p q (A.replicas p e) (A.replicas q f) same;
  strays = S.strays;
  excess_is_good = S.excess_is_good;
  pending_known = S.pending_known;
  replicated = S.replicated;
}

-- `lawful_among` if the cluster does not change
pub among_here : (C : Cluster) (H G : Holdings) → ((p : ReplicaId) → is_some (get G.replicas p) ≡ true → is_some (get H.replicas p) ≡ true)
    → ((p : ReplicaId) → is_some (get G.pending p) ≡ true → is_some (get H.pending p) ≡ true) → IsRemainder C C H G
among_here C H G r t = record { replicas = r; pending = t; replica_nodes = λ _ _. refl; pending_nodes = λ _ _. refl }

was_there : {X : Type 0} (m : Map by_replica X) (p : ReplicaId → X → Bool) (q : ReplicaId) → is_some (get (keep m p) q) ≡ true → (is_some (get m q) ≡ true) × (x : X) × (p q x ≡ true)
was_there m p q e = let x = there (get (keep m p) q) e in let k = get_kept m p q x.0 x.1 in (is_there (get m q) x.0 k.0, x.0, k.1)

-- holdings without the storages that are gone
module _ (C D : Cluster) (H : Holdings) (gone : ℕ → Bool) (stays : (s : ℕ) → gone s ≡ false → node_of D s ≡ node_of C s) (L : IsLawfulHoldings C H) where
  replica_kept : (p : ReplicaId) → is_some (get (keep H.replicas (λ q _. not (gone q.storage))) p) ≡ true → (is_some (get H.replicas p) ≡ true) × (gone p.storage ≡ false)
  replica_kept p e = let k = was_there H.replicas (λ q _. not (gone q.storage)) p e in (k.0, not-true (gone p.storage) k.2)

  pending_kept : (p : ReplicaId) → is_some (get (keep H.pending (λ q _. not (gone q.storage))) p) ≡ true → (is_some (get H.pending p) ≡ true) × (gone p.storage ≡ false)
  pending_kept p e = let k = was_there H.pending (λ q _. not (gone q.storage)) p e in (k.0, not-true (gone p.storage) k.2)

  pub without_lawful : IsLawfulHoldings D (without_storages H gone)
  unfolding without_storages
  without_lawful =
      lawful_among C D H (without_storages H gone) L
      (record {
        replicas = λ p e. (replica_kept p e).0;
        pending = λ p e. (pending_kept p e).0;
        replica_nodes = λ p e. stays p.storage (replica_kept p e).1;
        pending_nodes = λ p e. stays p.storage (pending_kept p e).1;
      })
      (record {
        strays = λ p m e. L.strays p m (get_kept H.replicas (λ q _. not (gone q.storage)) p m e).0;
        excess_is_good = λ p m e. L.excess_is_good p m (get_kept H.replicas (λ q _. not (gone q.storage)) p m e).0;
        pending_known = λ p e. L.pending_known p (pending_kept p e).0;
        replicated = L.replicated;
      })

pub after_death : (C : Cluster) (H : Holdings) (n : ℕ) → IsLawfulHoldings C H → IsLawfulHoldings (without_node C n) (without_storages H (has_storage C n))
unfolding without_node
after_death C H n L =
    without_lawful C (without_node C n) H (has_storage C n)
    (λ s e. same_node C (without_node C n) s (get-keep_there C.storages (λ t. not (has_storage C n t)) s (not_from_false (has_storage C n s) e))) L

pub after_failure : (C : Cluster) (H : Holdings) (s : ℕ) → IsLawfulHoldings C H → IsLawfulHoldings (without_storage C s) (without_storages H (λ t. t == s))
unfolding without_storage
after_failure C H s L =
    without_lawful C (without_storage C s) H (λ t. t == s)
    (λ t e. same_node C (without_storage C s) t (get-remove C.storages s t ∙ not_taken (eq_by_cmp nat_cmp t s) (get C.storages t) (number_tie t s ∙ e))) L

-- holdings stay lawful if the known storages keep their nodes
pub same_holdings : (C D : Cluster) (H : Holdings) → ((s : ℕ) → contains_key C.storages s ≡ true → node_of D s ≡ node_of C s) → IsLawfulHoldings C H → IsLawfulHoldings D H
same_holdings C D H stays L =
    lawful_among C D H H L
    (record {
      replicas = λ _ e. e;
      pending = λ _ e. e;
      replica_nodes = λ p e. stays p.storage (L.stored p e);
      pending_nodes = λ p e. stays p.storage (L.pending_stored p e);
    })
    (marks_of C H L)

pub other_key : (C : Cluster) (s t : ℕ) → contains_key C.storages s ≡ true → knows_storage C t ≡ false → (b : Bool) → eq_by_cmp nat_cmp s t ≡ b → b ≡ false
unfolding knows_storage
other_key C s t known unknown true e = absurd (true≢false (sym known ∙ ap (contains_key C.storages) (same_key by_number s t e) ∙ unknown))
other_key C s t known unknown false e = refl

pub after_registration : (C : Cluster) (H : Holdings) (n rack : ℕ) (ss : List ℕ) → IsRegistrable C n ss → IsLawfulHoldings C H → IsLawfulHoldings (register C n rack ss) H
unfolding register
after_registration C H n rack ss may L =
    same_holdings C (register C n rack ss) H (λ s known.
    same_node C (register C n rack ss) s (get_insert_all_elsewhere C.storages (fresh n ss) s
    (each_mapped (λ e. eq_by_cmp nat_cmp s e.0 ≡ false) (λ t. (t, record { node = n; remaining = 0 })) ss
    (each_then (λ t. knows_storage C t ≡ false) (λ t. eq_by_cmp nat_cmp s t ≡ false) ss (none_passes (knows_storage C) ss may.unknown)
    (λ t unknown. other_key C s t known unknown (eq_by_cmp nat_cmp s t) refl))))) L

pub after_heartbeat : (C : Cluster) (H : Holdings) (rs : List Remaining) → IsLawfulHoldings C H → IsLawfulHoldings (heartbeat C rs) H
unfolding heartbeat node_of
after_heartbeat C H rs L = same_holdings C (heartbeat C rs) H (λ s _. same_nodes C.storages rs s) L

pub after_removal : (C : Cluster) (H : Holdings) (p : ReplicaId) → IsLawfulHoldings C H → IsLawfulHoldings C (remove_replica H p)
unfolding remove_replica
after_removal C H p L =
    lawful_among C C H (remove_replica H p) L
    (among_here C H (remove_replica H p) (λ q e. let x = there (get (remove H.replicas p) q) e in is_there (get H.replicas q) x.0 (get_removed H.replicas p q x.0 x.1).1) (λ _ e. e))
    (record {
      strays = λ q m e. L.strays q m (get_removed H.replicas p q m e).1;
      excess_is_good = λ q m e. L.excess_is_good q m (get_removed H.replicas p q m e).1;
      pending_known = L.pending_known;
      replicated = L.replicated;
    })

-- A node that begins to drain.

either_lawful : (C : Cluster) (H G : Holdings) (b : Bool) → IsLawfulHoldings C H → IsLawfulHoldings C G → IsLawfulHoldings C (if b then H else G)
either_lawful C H G true L K = L
either_lawful C H G false L K = K

pub same_either : {X : Type 0} (f : Holdings → X) (H G : Holdings) (b : Bool) → f G ≡ f H → f (if b then H else G) ≡ f H
same_either f H G true e = refl
same_either f H G false e = e

module _ (C : Cluster) (H : Holdings) (n : ℕ) where
  abbrev pub fewer_sent : Holdings
  fewer_sent = record H { pending = keep H.pending (λ q _. not (has_storage C n q.storage)) }

  fewer_lawful : IsLawfulHoldings C H → IsLawfulHoldings C fewer_sent
  fewer_lawful L =
      let was : (p : ReplicaId) → is_some (get fewer_sent.pending p) ≡ true → is_some (get H.pending p) ≡ true = λ p e. (was_there H.pending (λ q _. not (has_storage C n q.storage)) p e).0 in
      lawful_among C C H fewer_sent L (among_here C H fewer_sent (λ _ e. e) was)
      (record { strays = L.strays; excess_is_good = L.excess_is_good; pending_known = λ p e. L.pending_known p (was p e); replicated = L.replicated })

  pub after_drain : IsLawfulHoldings C H → IsLawfulHoldings (drain C n) (begin_drain C H n)
  unfolding drain begin_drain node_of
  after_drain L = same_holdings C (drain C n) (begin_drain C H n) (λ _ _. refl) (either_lawful C H fewer_sent (drains C n) L (fewer_lawful L))

  pub after_undrain : IsLawfulHoldings C H → IsLawfulHoldings (undrain C n) H
  unfolding undrain node_of
  after_undrain L = same_holdings C (undrain C n) H (λ _ _. refl) L

  pub drained_blocks : (begin_drain C H n).blocks ≡ H.blocks
  unfolding begin_drain
  drained_blocks = same_either (λ G. G.blocks) H fewer_sent (drains C n) refl

  pub drained_replicas : (begin_drain C H n).replicas ≡ H.replicas
  unfolding begin_drain
  drained_replicas = same_either (λ G. G.replicas) H fewer_sent (drains C n) refl

  -- no transfer is added
  pub drained_before : (p : ReplicaId) (r : ℕ) → get (begin_drain C H n).pending p ≡ Some r → get H.pending p ≡ Some r
  unfolding begin_drain
  drained_before p r e = by_case (drains C n) e
    where
      by_case : (b : Bool) → get (if b then H else fewer_sent).pending p ≡ Some r → get H.pending p ≡ Some r
      by_case true e = e
      by_case false e = (get_kept H.pending (λ q _. not (has_storage C n q.storage)) p r e).0
