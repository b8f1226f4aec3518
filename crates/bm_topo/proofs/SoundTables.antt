-- A cluster's tables stay sound as nodes join, drain and leave, and as storages leave or report.
use Rattle.std.proofs.Common.{◌≡◌, ℕ, ◌+◌, ◌<◌, ◌≤◌, ◌^◌, Bool, true, false, cond, List, [], ◌∷◌, length, Option, Some, None, refl, sym, ap, subst, ◌∙◌, ◌≢◌, true≢false, arith}
use Rattle.std.specs.Prelude.{◌==◌, not, nat_le, option_and_then, option_map, is_some, IsTrue}
use Rattle.std.specs.Option.{option_map_or}
use Rattle.std.proofs.lemmas.Bool.{leb-true, leb-false, ltb-false, and_parts, eq-eqb, or_parts, not-true}
use Rattle.bm_base.specs.declared.storage.StorageInfo.{StorageInfo}
use Rattle.bm_base.specs.declared.event.Event.TheVariants.{Register}
use Rattle.bm_base.specs.declared.event.Remaining.{Remaining}
use Rattle.bm_base.specs.Words.{Map, Set, by_number, empty, entries, get, contains_key, len, insert, insert_all, keep, remove, revise_at, Cluster, has_storage, node_of, drains, register, heartbeat, without_storage, drain, undrain, set_remaining, first_of, cluster_checks, knows_node}
use Rattle.bm_base.specs.declared.limits.Limits.{Limits}
use Rattle.bm_base.specs.declared.limits.TheConstants.{MOST_NODES, MOST_STORAGES}
use Rattle.bm_base.specs.Machine.Configuration.{are_allowed, is_up_to}
use Rattle.bm_base.specs.Promises.Lawful.{IsLawfulCluster}
use Rattle.bm_base.proofs.MapEntries.{not_tied, key_itself, get_kept, known_before, known_removed}
use Rattle.bm_base.proofs.ClusterEvents.{registrable, registered, storage_failed, heartbeat_reported, began_to_drain, ceased_to_drain}
use Rattle.bm_base.proofs.MapLaws.{same_map, get-keep, get-empty, get-remove}
use Rattle.bm_base.proofs.Differences.{len-keep-le}
use Rattle.bm_base.proofs.Options.{not_there}
use Rattle.bm_topo.specs.Keys.{HasSmallKeys}
use Rattle.bm_topo.specs.NewStorages.{new_storages}
use Rattle.bm_topo.specs.Racks.{on_rack, CountsRacks, without_one}
use Rattle.bm_topo.specs.Sound.{IsSound, cluster_of}
use Rattle.bm_topo.proofs.Keys.{small_keys_insert, small_keys-empty, small_keys-remove, small_keys-keep, small_keys-revise_at}
use Rattle.bm_topo.proofs.Lengths.{len-remove, len-revise_at}
use Rattle.bm_topo.proofs.RackChanges.{counts-insert, counts-remove}

-- limits are within bounds

pub most_nodes : (l : Limits) → IsTrue (are_allowed l) → l.nodes ≤ MOST_NODES
most_nodes l h = leb-true l.nodes MOST_NODES (and_parts (nat_le 1 l.nodes) (nat_le l.nodes MOST_NODES) (and_parts (is_up_to MOST_NODES l.nodes) (is_up_to MOST_STORAGES l.storages) h).0).1

pub most_storages : (l : Limits) → IsTrue (are_allowed l) → l.storages ≤ MOST_STORAGES
most_storages l h =
    leb-true l.storages MOST_STORAGES (and_parts (nat_le 1 l.storages) (nat_le l.storages MOST_STORAGES) (and_parts (is_up_to MOST_NODES l.nodes) (is_up_to MOST_STORAGES l.storages) h).1).1

counts-empty : CountsRacks empty empty
unfolding on_rack entries empty
counts-empty r = get-empty by_number r

pub len-empty : (X : Type 0) → len (empty {X = X} {o = by_number}) ≡ 0
unfolding len entries empty
len-empty X = refl

none_get : {X : Type 0} (k : ℕ) (x : X) → get (empty {X = X} {o = by_number}) k ≡ Some x → ⊥
none_get {X} k x e = none_some (sym (get-empty {X = X} by_number k) ∙ e)
  where
    none_some : None ≡ Some x → ⊥
    none_some h = cc

empty_lawful : (l : Limits) → IsLawfulCluster (cluster_of l empty empty empty)
unfolding drains
empty_lawful l = record {
  alive = λ s i e. absurd (none_get s i e);
  draining_alive = λ n e. absurd (true_not (ap is_some (get-empty by_number n)) e);
  few_nodes = (let e = len-empty ℕ in omega (arith, e));
  few_storages = (let e = len-empty StorageInfo in omega (arith, e));
}
  where
    true_not : {b : Bool} → b ≡ false → b ≡ true → ⊥
    true_not h e = cc

pub sound-empty : (l : Limits) (nodes racks : Map by_number ℕ) (draining : Set by_number) (storages : Map by_number StorageInfo) → nodes ≡ empty → racks ≡ empty → draining ≡ empty → storages ≡ empty → IsTrue (are_allowed l) → IsSound l nodes racks draining storages
sound-empty l nodes racks draining storages n r d s allowed =
    rw (n, r, d, s) (record {
      allowed = allowed;
      node_ids = small_keys-empty empty refl;
      storage_ids = small_keys-empty empty refl;
      counted = counts-empty;
      lawful = empty_lawful l;
    })

-- if only the storages change
sound-storages : {l : Limits} (nodes racks : Map by_number ℕ) (draining : Set by_number) (old new : Map by_number StorageInfo) → IsSound l nodes racks draining old
    → (HasSmallKeys old → HasSmallKeys new) → IsLawfulCluster (cluster_of l nodes draining new) → IsSound l nodes racks draining new
sound-storages {l} nodes racks draining old new h small lawful = record {
  allowed = h.allowed;
  node_ids = h.node_ids;
  storage_ids = small h.storage_ids;
  counted = h.counted;
  lawful = lawful;
}

pub sound-removed : {l : Limits} (nodes racks : Map by_number ℕ) (draining : Set by_number) (old new : Map by_number StorageInfo) (k : ℕ) → new ≡ remove old k → IsSound l nodes racks draining old → IsSound l nodes racks draining new
unfolding without_storage
sound-removed {l} nodes racks draining old new k is h =
    sound-storages nodes racks draining old new h (λ small. subst (λ m. HasSmallKeys m) (sym is) (small_keys-remove old k small))
    (subst (λ m. IsLawfulCluster (cluster_of l nodes draining m)) (sym is) (storage_failed (cluster_of l nodes draining old) k h.lawful))

-- if a node's storages leave, and it no longer drains
pub sound-kept : {l : Limits} (nodes racks : Map by_number ℕ) (draining left : Set by_number) (old new : Map by_number StorageInfo) (n : ℕ) → new ≡ keep old (λ _ i. not (i.node == n)) → left ≡ remove draining n
    → IsSound l nodes racks draining old → IsSound l nodes racks left new
unfolding drains
sound-kept {l} nodes racks draining left old new n is left_is h = record {
  allowed = h.allowed;
  node_ids = h.node_ids;
  storage_ids = subst (λ m. HasSmallKeys m) (sym is) (small_keys-keep old (λ _ i. not (i.node == n)) h.storage_ids);
  counted = h.counted;
  lawful = record {
    alive = λ s i e. h.lawful.alive s i (get_kept old (λ _ j. not (j.node == n)) s i (ap (λ m. get m s) (sym is) ∙ e)).0;
    draining_alive = λ m e. h.lawful.draining_alive m (known_before draining n m (ap (λ d. contains_key d m) (sym left_is) ∙ e)).1;
    few_nodes = h.lawful.few_nodes;
    few_storages = (let e = ap len is in let few = len-keep-le old (λ _ i. not (i.node == n)) in omega (arith, e, few, h.lawful.few_storages));
  };
}

-- then none of its storages is left, and it is not among those that drain
pub none_left : (old new : Map by_number StorageInfo) (n s : ℕ) (i : StorageInfo) → new ≡ keep old (λ _ j. not (j.node == n)) → get new s ≡ Some i → i.node ≢ n
none_left old new n s i is e here =
    let other : (i.node == n) ≡ false = not-true (i.node == n) (get_kept old (λ _ j. not (j.node == n)) s i (ap (λ m. get m s) (sym is) ∙ e)).1 in
    true≢false (sym (eq-eqb i.node n here) ∙ other)

pub not_left : (draining left : Set by_number) (n : ℕ) → left ≡ remove draining n → contains_key left n ≡ false
not_left draining left n is = ap (λ d. contains_key d n) is ∙ ap is_some (get-remove draining n n ∙ ap (λ b. cond b None (get draining n)) (key_itself by_number n))

-- if a node leaves that has no storage and does not drain
pub sound-left : {l : Limits} (nodes racks rest left : Map by_number ℕ) (draining : Set by_number) (storages : Map by_number StorageInfo) (n v : ℕ) → get nodes n ≡ Some v → rest ≡ remove nodes n → left ≡ without_one racks v (on_rack nodes v)
    → ((s : ℕ) (i : StorageInfo) → get storages s ≡ Some i → i.node ≢ n) → contains_key draining n ≡ false
    → IsSound l nodes racks draining storages → IsSound l rest left draining storages
unfolding drains
sound-left {l} nodes racks rest left draining storages n v there rest_is left_is bare idle h = record {
  allowed = h.allowed;
  node_ids = subst (λ m. HasSmallKeys m) (sym rest_is) (small_keys-remove nodes n h.node_ids);
  storage_ids = h.storage_ids;
  counted = rw (rest_is, left_is) (counts-remove racks nodes n v there h.counted);
  lawful = record {
    alive = λ s i e. ap (λ m. contains_key m i.node) rest_is ∙ known_removed nodes n i.node (not_tied by_number i.node n (bare s i e)) (h.lawful.alive s i e);
    draining_alive = λ m e. ap (λ k. contains_key k m) rest_is ∙ known_removed nodes n m (not_tied by_number m n (λ is. true_false (sym (ap (contains_key draining) is ∙ idle) ∙ e))) (h.lawful.draining_alive m e);
    few_nodes = (let e = ap len rest_is in let few = len-remove nodes n in omega (arith, e, few, h.lawful.few_nodes));
    few_storages = h.lawful.few_storages;
  };
}
  where
    true_false : false ≡ true → ⊥
    true_false e = cc

-- if a node begins to drain, and if one ceases to
pub sound-drained : {l : Limits} (nodes racks : Map by_number ℕ) (draining more : Set by_number) (storages : Map by_number StorageInfo) (n : ℕ) → contains_key nodes n ≡ true → more ≡ insert draining n tt
    → IsSound l nodes racks draining storages → IsSound l nodes racks more storages
unfolding drain
sound-drained {l} nodes racks draining more storages n known is h = record {
  allowed = h.allowed;
  node_ids = h.node_ids;
  storage_ids = h.storage_ids;
  counted = h.counted;
  lawful = subst (λ d. IsLawfulCluster (cluster_of l nodes d storages)) (sym is) (began_to_drain (cluster_of l nodes draining storages) n h.lawful known);
}

pub sound-undrained : {l : Limits} (nodes racks : Map by_number ℕ) (draining left : Set by_number) (storages : Map by_number StorageInfo) (n : ℕ) → left ≡ remove draining n
    → IsSound l nodes racks draining storages → IsSound l nodes racks left storages
unfolding undrain
sound-undrained {l} nodes racks draining left storages n is h = record {
  allowed = h.allowed;
  node_ids = h.node_ids;
  storage_ids = h.storage_ids;
  counted = h.counted;
  lawful = subst (λ d. IsLawfulCluster (cluster_of l nodes d storages)) (sym is) (ceased_to_drain (cluster_of l nodes draining storages) n h.lawful);
}

-- What the checks of a registration imply.

none_here : {X : Type 0} (b : Bool) (x : X) (r : Option X) → cond b (Some x) r ≡ None → (b ≡ false) × (r ≡ None)
none_here true x r h = cc
none_here false x r h = (refl, h)

pub record IsNew (C : Cluster) (n : ℕ) (ss : List ℕ) : Type 0 where
  pub absent : get C.nodes n ≡ None
  pub few_nodes : len C.nodes + 1 ≤ C.limits.nodes
  pub few_storages : len C.storages + length ss ≤ C.limits.storages

pub registration_is_new : (C : Cluster) (n rack : ℕ) (ss : List ℕ) → first_of (cluster_checks C (Register n rack ss)) ≡ None → IsNew C n ss
unfolding cluster_checks knows_node
registration_is_new C n rack ss h =
    let first = none_here _ _ _ h in
    let second = none_here _ _ _ first.1 in
    let third = none_here _ _ _ second.1 in
    let few = or_parts _ _ third.0 in
    let nodes = leb-false C.limits.nodes (len C.nodes) few.0 in
    let storages = ltb-false C.limits.storages (len C.storages + length ss) few.1 in
    record { absent = not_there _ first.0; few_nodes = omega (arith, nodes); few_storages = omega (arith, storages) }

-- if a node registers
pub sound-joined : {l : Limits} (nodes racks more counts : Map by_number ℕ) (draining left : Set by_number) (storages all : Map by_number StorageInfo) (n v count : ℕ) (ss : List ℕ) → n < 2 ^ 32
    → first_of (cluster_checks (cluster_of l nodes draining storages) (Register n v ss)) ≡ None → count ≡ on_rack nodes v → more ≡ insert nodes n v → counts ≡ insert racks v (count + 1)
    → left ≡ remove draining n → all ≡ insert_all storages (new_storages n ss) → (HasSmallKeys storages → HasSmallKeys all) → IsSound l nodes racks draining storages → IsSound l more counts left all
unfolding register
sound-joined {l} nodes racks more counts draining left storages all n v count ss fits accepted count_is more_is counts_are left_is all_is small h = record {
  allowed = h.allowed;
  node_ids = subst (λ m. HasSmallKeys m) (sym more_is) (small_keys_insert nodes n v fits h.node_ids);
  storage_ids = small h.storage_ids;
  counted = rw (more_is, counts_are, count_is) (counts-insert racks nodes n v (registration_is_new (cluster_of l nodes draining storages) n v ss accepted).absent h.counted);
  lawful = rw (more_is, left_is, all_is) (registered (cluster_of l nodes draining storages) n v ss h.lawful (registrable (cluster_of l nodes draining storages) n v ss accepted));
}

-- Heartbeats.

pub small-set_remaining : (rs : List Remaining) (m : Map by_number StorageInfo) → HasSmallKeys m → HasSmallKeys (set_remaining m rs)
small-set_remaining [] m h = h
small-set_remaining (r ∷ rs) m h = small-set_remaining rs (revise_at m r.storage (λ i. record i { remaining = r.remaining })) (small_keys-revise_at m r.storage (λ i. record i { remaining = r.remaining }) h)

pub len-set_remaining : (rs : List Remaining) (m : Map by_number StorageInfo) → len (set_remaining m rs) ≤ len m
len-set_remaining [] m = omega arith
len-set_remaining (r ∷ rs) m =
    let rest = len-set_remaining rs (revise_at m r.storage (λ i. record i { remaining = r.remaining })) in
    let one = len-revise_at m r.storage (λ i. record i { remaining = r.remaining }) in
    omega (arith, rest, one)

-- a test of the looked-up storage is one of what is known of it
same_test : (n : ℕ) (v : Option StorageInfo) → option_and_then (λ x. cond (not (x.node == n)) (Some x) None) v
    ≡ option_and_then (λ x. cond (not (option_map_or (λ m. m == n) (option_map (λ i. i.node) v) false)) (Some x) None) v
same_test n None = refl
same_test n (Some i) = refl

pub sound-reported : {l : Limits} (nodes racks : Map by_number ℕ) (draining : Set by_number) (old new : Map by_number StorageInfo) (rs : List Remaining) → new ≡ set_remaining old rs → IsSound l nodes racks draining old → IsSound l nodes racks draining new
unfolding heartbeat
sound-reported {l} nodes racks draining old new rs is h =
    sound-storages nodes racks draining old new h (λ small. subst (λ m. HasSmallKeys m) (sym is) (small-set_remaining rs old small))
    (subst (λ m. IsLawfulCluster (cluster_of l nodes draining m)) (sym is) (heartbeat_reported (cluster_of l nodes draining old) rs h.lawful))

-- to keep the storages of other nodes
pub others_kept : (C : Cluster) (n : ℕ) → keep C.storages (λ _ i. not (i.node == n)) ≡ keep C.storages (λ s _. not (has_storage C n s))
unfolding has_storage node_of
others_kept C n =
    same_map (keep C.storages (λ _ i. not (i.node == n))) (keep C.storages (λ s _. not (has_storage C n s))) (λ q.
    get-keep C.storages (λ _ i. not (i.node == n)) q ∙ same_test n (get C.storages q) ∙ sym (get-keep C.storages (λ s _. not (has_storage C n s)) q))
