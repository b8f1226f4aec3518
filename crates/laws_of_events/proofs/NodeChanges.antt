-- Registration adds a node, death and failure remove replicas, and a heartbeat's last value counts.
use Rattle.std.proofs.Common.{◌≡◌, ℕ, Bool, true, false, cond, not, ◌||◌, Option, Some, None, List, [], ◌∷◌, ◌++◌, map, refl, ap, ◌∙◌, eqb-true, eq-eqb, ne_eqb}
use Rattle.std.specs.Prelude.{◌==◌, if◌then◌else◌, option_map}
use Rattle.std.specs.Option.{option_map_or}
use Rattle.std.specs.Ordering.{eq_by_cmp, nat_cmp}
use Rattle.std.proofs.lemmas.Bool.{or_parts, false_from_ne_true}
use Rattle.bm_base.specs.declared.replica.ReplicaId.{ReplicaId}
use Rattle.bm_base.specs.declared.storage.StorageInfo.{StorageInfo}
use Rattle.bm_base.specs.declared.event.Remaining.{Remaining}
use Rattle.bm_base.specs.Words.{Map, by_number, get, insert, insert_all, keep, revise_at, remove, has, Cluster, by_replica, node_of, has_storage, register, heartbeat, set_remaining, without_node, without_storage, without_storages, change_cluster, change_holdings, after_event}
use Rattle.bm_base.proofs.MapLaws.{get-insert, get-keep, get-revise}
use Rattle.bm_base.proofs.Ties.{number_tie}
use Rattle.bm_base.proofs.Options.{revised, none_stays, all_stays}
use Rattle.bm_base.proofs.MapEntries.{get_here, get_other, get_taken, get_left}
use Rattle.bm_base.proofs.Clusters.{is_on, eqb_turned}
use Rattle.laws_of_events.specs.Changes as law

-- A node registers.

abbrev pub new_or : Bool → ℕ → Option StorageInfo → Option StorageInfo
new_or b n z = if b then Some (record { node = n; remaining = 0 }) else z

step_new : (a b : Bool) (n : ℕ) (z : Option StorageInfo) → new_or a n (cond b (Some (record { node = n; remaining = 0 })) z) ≡ new_or (b || a) n z
step_new true true n z = refl
step_new true false n z = refl
step_new false true n z = refl
step_new false false n z = refl

pub new_storages : (n : ℕ) (ss : List ℕ) (m : Map by_number StorageInfo) (s : ℕ) → get (insert_all m (map (λ s. (s, record { node = n; remaining = 0 })) ss)) s ≡ new_or (has ss s) n (get m s)
new_storages n [] m s = refl
new_storages n (t ∷ ss) m s =
    new_storages n ss (insert m t (record { node = n; remaining = 0 })) s
    ∙ ap (new_or (has ss s) n) (get-insert m t (record { node = n; remaining = 0 }) s ∙ ap (λ b. cond b (Some (record { node = n; remaining = 0 })) (get m s)) (number_tie s t ∙ eqb_turned s t))
    ∙ step_new (has ss s) (t == s) n (get m s)

pub node_came : law.registered_node_is_there
unfolding after_event change_cluster change_holdings register
node_came M n rack ss = record {
  node = get_here M.cluster.nodes n rack;
  other_nodes = λ m other. get_other M.cluster.nodes n rack m other;
  storages = λ s h. new_storages n ss M.cluster.storages s ∙ ap (λ b. new_or b n (get M.cluster.storages s)) h;
  other_storages = λ s h. new_storages n ss M.cluster.storages s ∙ ap (λ b. new_or b n (get M.cluster.storages s)) h;
  holdings = refl;
}

-- Storages leave.

abbrev kept_where : {X : Type 0} → (ℕ → Bool) → Map by_replica X → Map by_replica X
kept_where gone m = keep m (λ q _. not (gone q.storage))

pub gone_there : {X : Type 0} (gone : ℕ → Bool) (m : Map by_replica X) (p : ReplicaId) → gone p.storage ≡ true → get (kept_where gone m) p ≡ None
gone_there gone m p e = get-keep m (λ q _. not (gone q.storage)) p ∙ none_stays (not (gone p.storage)) (get m p) (ap not e)

pub still_there : {X : Type 0} (gone : ℕ → Bool) (m : Map by_replica X) (p : ReplicaId) → gone p.storage ≡ false → get (kept_where gone m) p ≡ get m p
still_there gone m p e = get-keep m (λ q _. not (gone q.storage)) p ∙ all_stays (not (gone p.storage)) (get m p) (ap not e)

-- a storage of the node, by the test of the definitions
pub on_it : (C : Cluster) (n s : ℕ) → law.IsOn C n s → has_storage C n s ≡ true
on_it C n s h = is_on C n s h.0 h.1 ∙ eq-eqb h.0.node n h.2

pub node_at : (z : Option ℕ) (n : ℕ) → option_map_or (λ m. m == n) z false ≡ true → z ≡ Some n
node_at None n e = cc
node_at (Some m) n e = ap Some (eqb-true m n e)

pub is_on_it : (C : Cluster) (n s : ℕ) → has_storage C n s ≡ true → law.IsOn C n s
unfolding has_storage node_of
is_on_it C n s e = revised (λ (i : StorageInfo). i.node) (get C.storages s) n (node_at (node_of C s) n e)

pub not_on_it : (C : Cluster) (n s : ℕ) → (law.IsOn C n s → ⊥) → has_storage C n s ≡ false
not_on_it C n s never = false_from_ne_true (has_storage C n s) (λ e. never (is_on_it C n s e))

pub node_left : law.dead_node_leaves
unfolding after_event change_cluster change_holdings without_node without_storages
node_left M n =
    let C = M.cluster in
    let H = M.holdings in (
      get_taken C.nodes n,
      (λ m other. get_left C.nodes n m other),
      record {
        storages = λ s h. get-keep C.storages (λ s _. not (has_storage C n s)) s ∙ none_stays (not (has_storage C n s)) (get C.storages s) (ap not (on_it C n s h));
        other_storages = λ s h. get-keep C.storages (λ s _. not (has_storage C n s)) s ∙ all_stays (not (has_storage C n s)) (get C.storages s) (ap not (not_on_it C n s h));
        replicas = λ p h. gone_there (has_storage C n) H.replicas p (on_it C n p.storage h);
        other_replicas = λ p h. still_there (has_storage C n) H.replicas p (not_on_it C n p.storage h);
        pending = λ p h. gone_there (has_storage C n) H.pending p (on_it C n p.storage h);
        other_pending = λ p h. still_there (has_storage C n) H.pending p (not_on_it C n p.storage h);
        blocks = refl;
      },
    )

pub storage_left : law.failed_storage_leaves
unfolding after_event change_cluster change_holdings without_storage without_storages
storage_left M s =
    let C = M.cluster in
    let H = M.holdings in (
      refl,
      record {
        storages = λ t h. ap (get (remove C.storages s)) h ∙ get_taken C.storages s;
        other_storages = λ t h. get_left C.storages s t h;
        replicas = λ p h. gone_there (λ t. t == s) H.replicas p (eq-eqb p.storage s h);
        other_replicas = λ p h. still_there (λ t. t == s) H.replicas p (ne_eqb p.storage s h);
        pending = λ p h. gone_there (λ t. t == s) H.pending p (eq-eqb p.storage s h);
        other_pending = λ p h. still_there (λ t. t == s) H.pending p (ne_eqb p.storage s h);
        blocks = refl;
      },
    )

-- Heartbeats.

abbrev with_free_bytes : ℕ → Bool → StorageInfo → StorageInfo
with_free_bytes r b i = if b then record i { remaining = r } else i

free_bytes_at : (m : Map by_number StorageInfo) (r : Remaining) (s : ℕ) → get (revise_at m r.storage (λ i. record i { remaining = r.remaining })) s ≡ option_map (with_free_bytes r.remaining (s == r.storage)) (get m s)
unfolding revise_at
free_bytes_at m r s =
    get-revise m (λ q x. if eq_by_cmp nat_cmp q r.storage then record x { remaining = r.remaining } else x) s
    ∙ ap (λ b. option_map (with_free_bytes r.remaining b) (get m s)) (number_tie s r.storage)

not_listed : (r : ℕ) (b : Bool) (z : Option StorageInfo) → b ≡ false → option_map (with_free_bytes r b) z ≡ z
not_listed r true z e = cc
not_listed r false None e = refl
not_listed r false (Some i) e = refl

-- storages that the heartbeat does not name stay
others_left : (m : Map by_number StorageInfo) (rs : List Remaining) (s : ℕ) → has (map (λ q. q.storage) rs) s ≡ false → get (set_remaining m rs) s ≡ get m s
others_left m [] s h = refl
others_left m (r ∷ rs) s h =
    let parts = or_parts (r.storage == s) (has (map (λ q. q.storage) rs) s) h in
    others_left (revise_at m r.storage (λ i. record i { remaining = r.remaining })) rs s parts.1 ∙ free_bytes_at m r s ∙ not_listed r.remaining (s == r.storage) (get m s) (eqb_turned s r.storage ∙ parts.0)

still_on : (r : ℕ) (b : Bool) (z : Option StorageInfo) (i : StorageInfo) → z ≡ Some i → (j : StorageInfo) × (option_map (with_free_bytes r b) z ≡ Some j) × (j.node ≡ i.node)
still_on r true z i e = (record i { remaining = r }, ap (option_map (with_free_bytes r true)) e, refl)
still_on r false z i e = (i, ap (option_map (with_free_bytes r false)) e, refl)

last_counts : (m : Map by_number StorageInfo) (front : List Remaining) (r : Remaining) (behind : List Remaining) (i : StorageInfo) → get m r.storage ≡ Some i → has (map (λ q. q.storage) behind) r.storage ≡ false
    → get (set_remaining m (front ++ (r ∷ behind))) r.storage ≡ Some (record { node = i.node; remaining = r.remaining })
last_counts m [] r behind i e h =
    others_left (revise_at m r.storage (λ j. record j { remaining = r.remaining })) behind r.storage h ∙ free_bytes_at m r r.storage
    ∙ (λ k. option_map (with_free_bytes r.remaining (eq-eqb r.storage r.storage refl k)) (e k))
last_counts m (q ∷ front) r behind i e h =
    let now = still_on q.remaining (r.storage == q.storage) (get m r.storage) i e in
    last_counts (revise_at m q.storage (λ j. record j { remaining = q.remaining })) front r behind now.0 (free_bytes_at m q r.storage ∙ now.1) h
    ∙ ap (λ n. Some (record { node = n; remaining = r.remaining })) now.2

pub heartbeat_counts : law.last_heartbeat_counts
unfolding after_event change_cluster heartbeat
heartbeat_counts M n front r behind i e h = last_counts M.cluster.storages front r behind i e h

pub heartbeat_others : law.heartbeat_leaves_others
unfolding after_event change_cluster heartbeat
heartbeat_others M n rs s h = others_left M.cluster.storages rs s h
