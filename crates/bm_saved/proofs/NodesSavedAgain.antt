-- What is saved of a cluster with a restored node: what was saved before, and then the node.
use Rattle.std.proofs.Common.{◌≡◌, ℕ, ◌<◌, Bool, true, false, cond, List, [], ◌∷◌, ◌++◌, map, filter, Option, Some, None, is_some, refl, sym, ap, ◌∙◌, arith, T, ne_eqb, eqb-true}
use Rattle.std.specs.Prelude.{◌==◌, if◌then◌else◌, option_and_then}
use Rattle.std.specs.Option.{option_map_or}
use Rattle.std.specs.Ordering.{is_lt, eq_by_cmp, nat_cmp}
use Rattle.std.specs.FinMap.{is_sorted}
use Rattle.std.specs.FinMap.Entries.{below_all}
use Rattle.std.proofs.lemmas.Bool.{true≢false}
use Rattle.std.proofs.lemmas.List.{map-append}
use Rattle.bm_base.specs.declared.event.Remaining.{Remaining}
use Rattle.bm_base.specs.declared.storage.StorageInfo.{StorageInfo}
use Rattle.bm_base.specs.Words.{Map, by_number, entries, get, empty, insert, insert_all, keep, contains_key, Cluster, drains, knows_storage}
use Rattle.bm_base.specs.Maps.Conjunction.{both}
use Rattle.bm_base.specs.Promises.Lawful.{IsLawfulCluster}
use Rattle.bm_base.proofs.ForEach.{Each, each_mapped, each_then, none_passes}
use Rattle.bm_base.proofs.ListTests.{same_again}
use Rattle.bm_base.proofs.MapEntries.{each_entry, get_here, get_other, same_key}
use Rattle.bm_base.proofs.MapLaws.{same_map, entries-keep, get-insert, get-keep, get-empty}
use Rattle.bm_base.proofs.Options.{is_there, not_there}
use Rattle.bm_parts.proofs.KeepLaws.{keep-insert}
use Rattle.bm_saved.specs.Saved.{SavedNode, saved_storage, saved_node, saved_nodes}
use Rattle.bm_saved.specs.Restoring.{storage_entry, restore_node, storages_of_node}
use Rattle.bm_saved.specs.Faults.{ascend, HasNodesUpTo}
use Rattle.bm_saved.specs.Laws as law
use Rattle.bm_saved.proofs.Checks.{map_twice, mapped_back, all_greater, unbounded, below_next}
use Rattle.bm_saved.proofs.LawfulNodes.{IsFineNode, fine_node}
use Rattle.bm_saved.proofs.NodeEvents.{is_unknown, does_not_drain}
use Rattle.bm_saved.proofs.SortedEntries.{sorted_again, below_each, entries_after, less_by_number, same_list}

-- What is kept of a map after entries were inserted.

module _ (p : ℕ → StorageInfo → Bool) where
  -- there is no value, or one that fails the test
  abbrev Fails : ℕ → Option StorageInfo → Type 0
  Fails k o = option_map_or (p k) o false ≡ false

  abbrev kept : ℕ → Option StorageInfo → Option StorageInfo
  kept k o = option_and_then (λ x. cond (p k x) (Some x) None) o

  none_kept : (k : ℕ) (o : Option StorageInfo) → Fails k o → kept k o ≡ None
  none_kept k None f = refl
  none_kept k (Some x) f = ap (λ b. cond b (Some x) None) f

  one_out : (m : Map by_number StorageInfo) (k : ℕ) (v : StorageInfo) → p k v ≡ false → Fails k (get m k) → keep (insert m k v) p ≡ keep m p
  one_out m k v new old =
      same_map (keep (insert m k v) p) (keep m p) (λ q.
      get-keep (insert m k v) p q ∙ ap (kept q) (get-insert m k v q) ∙ by q (eq_by_cmp nat_cmp q k) refl ∙ sym (get-keep m p q))
    where
      by : (q : ℕ) (b : Bool) → eq_by_cmp nat_cmp q k ≡ b → kept q (cond b (Some v) (get m q)) ≡ kept q (get m q)
      by q false e = refl
      by q true e =
          let is = same_key by_number q k e in
          ap (λ x. kept x (Some v)) is ∙ none_kept k (Some v) new ∙ sym (ap (λ x. kept x (get m x)) is ∙ none_kept k (get m k) old)

  still_fails : (m : Map by_number StorageInfo) (k : ℕ) (v : StorageInfo) (j : ℕ) → p j v ≡ false → Fails j (get m j) → Fails j (get (insert m k v) j)
  still_fails m k v j new old = ap (λ o. option_map_or (p j) o false) (get-insert m k v j) ∙ by (eq_by_cmp nat_cmp j k)
    where
      by : (b : Bool) → Fails j (cond b (Some v) (get m j))
      by true = new
      by false = old

-- the storages of a node, as entries
abbrev storages_at : ℕ → List Remaining → List (ℕ × StorageInfo)
storages_at n rs = map (storage_entry n) rs

-- Another node keeps its storages.
module _ (n k : ℕ) (differ : (n == k) ≡ false) where
  abbrev of_other : ℕ → StorageInfo → Bool
  of_other s i = i.node == k

  others_kept : (m : Map by_number StorageInfo) (rs : List Remaining) → Each (λ r. Fails of_other r.storage (get m r.storage)) rs → keep (insert_all m (storages_at n rs)) of_other ≡ keep m of_other
  others_kept m [] each = refl
  others_kept m (r ∷ rs) each =
      let i : StorageInfo = record { node = n; remaining = r.remaining } in
      others_kept (insert m r.storage i) rs
      (each_then (λ x. Fails of_other x.storage (get m x.storage)) (λ x. Fails of_other x.storage (get (insert m r.storage i) x.storage)) rs each.1 (λ x f. still_fails of_other m r.storage i x.storage differ f))
      ∙ one_out of_other m r.storage i differ each.0

-- The node has its own.
module _ (n : ℕ) where
  abbrev of_node : ℕ → StorageInfo → Bool
  of_node s i = i.node == n

  own_kept : (m : Map by_number StorageInfo) (rs : List Remaining) → keep (insert_all m (storages_at n rs)) of_node ≡ insert_all (keep m of_node) (storages_at n rs)
  own_kept m [] = refl
  own_kept m (r ∷ rs) =
      let i : StorageInfo = record { node = n; remaining = r.remaining } in
      own_kept (insert m r.storage i) rs ∙ ap (λ x. insert_all x (storages_at n rs)) (keep-insert m of_node r.storage i (same_again n))

  nothing_kept : (m : Map by_number StorageInfo) → ((s : ℕ) (i : StorageInfo) → get m s ≡ Some i → (i.node == n) ≡ false) → keep m of_node ≡ empty
  nothing_kept m none = same_map (keep m of_node) empty (λ q. get-keep m of_node q ∙ by q (get m q) refl ∙ sym (get-empty {X = StorageInfo} by_number q))
    where
      by : (q : ℕ) (o : Option StorageInfo) → get m q ≡ o → kept of_node q o ≡ None
      by q None e = refl
      by q (Some i) e = ap (λ b. cond b (Some i) None) (none q i e)

  sorted_own : (rs : List Remaining) → ascend (map (λ r. r.storage) rs) ≡ true → T (is_sorted nat_cmp (storages_at n rs))
  sorted_own [] up = tt
  sorted_own (r ∷ rs) up =
      both _ _
      (below_each by_number r.storage (storages_at n rs) (each_mapped (λ e. T (is_lt (nat_cmp r.storage e.0))) (storage_entry n) rs (each_then (λ x. r.storage < x.storage) (λ x. T (is_lt (nat_cmp r.storage x.storage))) rs (mapped_back (λ t. r.storage < t) (λ (x : Remaining). x.storage) rs (all_greater r.storage (map (λ x. x.storage) rs) up)) (λ x less. less_by_number r.storage x.storage less))))
      (sorted_own rs (unbounded (Some r.storage) (map (λ x. x.storage) rs) up))

module _ (C : Cluster) (last : Option ℕ) (s : SavedNode) (L : IsLawfulCluster C) (up_to : HasNodesUpTo last C) (ok : IsFineNode C last s) where
  unknown : contains_key C.nodes s.node ≡ false
  unknown = is_unknown C last s.node up_to ok.number

  did_not_drain : contains_key C.draining s.node ≡ false
  unfolding drains
  did_not_drain = does_not_drain C s.node L unknown

  drained_after : (d : Bool) → contains_key (if d then insert C.draining s.node tt else C.draining) s.node ≡ d
  drained_after true = is_there (get (insert C.draining s.node tt) s.node) tt (get_here C.draining s.node tt)
  drained_after false = did_not_drain

  other_drains : (d : Bool) (k : ℕ) → k < s.node → contains_key (if d then insert C.draining s.node tt else C.draining) k ≡ contains_key C.draining k
  other_drains true k less = ap is_some (get_other C.draining s.node tt k (λ e. omega (arith, less, e)))
  other_drains false k less = refl

  no_storage : (t : ℕ) (i : StorageInfo) → get C.storages t ≡ Some i → (i.node == s.node) ≡ false
  no_storage t i e = by (i.node == s.node) refl
    where
      by : (b : Bool) → (i.node == s.node) ≡ b → (i.node == s.node) ≡ false
      by false h = h
      by true h = absurd (true≢false (sym (L.alive t i e) ∙ ap (contains_key C.nodes) (eqb-true i.node s.node h) ∙ unknown))

  -- no storage of the node was known
  new_storages : Each (λ r. get C.storages r.storage ≡ None) s.storages
  unfolding knows_storage
  new_storages = mapped_back (λ t. get C.storages t ≡ None) (λ r. r.storage) s.storages (each_then (λ t. contains_key C.storages t ≡ false) (λ t. get C.storages t ≡ None) (storages_of_node s) (none_passes (contains_key C.storages) (storages_of_node s) ok.fresh) (λ t e. not_there (get C.storages t) e))

  own_storages : filter (λ e. e.1.node == s.node) (entries (insert_all C.storages (storages_at s.node s.storages))) ≡ storages_at s.node s.storages
  own_storages =
      sym (entries-keep by_number (insert_all C.storages (storages_at s.node s.storages)) (of_node s.node))
      ∙ ap entries (own_kept s.node C.storages s.storages ∙ ap (λ m. insert_all m (storages_at s.node s.storages)) (nothing_kept s.node C.storages no_storage))
      ∙ sorted_again by_number (storages_at s.node s.storages) (sorted_own s.node s.storages ok.order)

  other_storages : (k : ℕ) → k < s.node → filter (λ e. e.1.node == k) (entries (insert_all C.storages (storages_at s.node s.storages))) ≡ filter (λ e. e.1.node == k) (entries C.storages)
  other_storages k less =
      let differ = ne_eqb s.node k (λ e. omega (arith, less, e)) in
      let is_other : ℕ → StorageInfo → Bool = λ _ i. i.node == k in
      sym (entries-keep by_number (insert_all C.storages (storages_at s.node s.storages)) is_other)
      ∙ ap entries (others_kept s.node k differ C.storages s.storages (each_then (λ r. get C.storages r.storage ≡ None) (λ r. Fails is_other r.storage (get C.storages r.storage)) s.storages new_storages (λ r e. ap (λ o. option_map_or (is_other r.storage) o false) e)))
      ∙ entries-keep by_number C.storages is_other

  node_after : saved_node (restore_node C s) s.node s.rack ≡ s
  unfolding saved_node restore_node drains
  node_after = λ i. record {
    node = s.node;
    rack = s.rack;
    drains = drained_after s.drains i;
    storages = (ap (map saved_storage) own_storages ∙ map_twice saved_storage (storage_entry s.node) s.storages ∙ same_list s.storages) i;
  }

  other_node : (k rack : ℕ) → k < s.node → saved_node (restore_node C s) k rack ≡ saved_node C k rack
  unfolding saved_node restore_node drains
  other_node k rack less = λ i. record {
    node = k;
    rack = rack;
    drains = other_drains s.drains k less i;
    storages = map saved_storage (other_storages k less i);
  }

  other_nodes : (ns : List (ℕ × ℕ)) → Each (λ e. e.0 < s.node) ns → map (λ e. saved_node (restore_node C s) e.0 e.1) ns ≡ map (λ e. saved_node C e.0 e.1) ns
  other_nodes [] each = refl
  other_nodes (e ∷ ns) each = λ i. other_node e.0 e.1 each.0 i ∷ other_nodes ns each.1 i

  nodes_below : Each (λ e. e.0 < s.node) (entries C.nodes)
  nodes_below = each_then (λ e. get C.nodes e.0 ≡ Some e.1) (λ e. e.0 < s.node) (entries C.nodes) (each_entry C.nodes) (λ e is. below_next last e.0 s.node (up_to e.0 (is_there (get C.nodes e.0) e.1 is)) ok.number)

  nodes_after : entries (insert C.nodes s.node s.rack) ≡ entries C.nodes ++ ((s.node, s.rack) ∷ [])
  nodes_after =
      entries_after by_number C.nodes ((s.node, s.rack) ∷ []) tt
      (each_then (λ e. e.0 < s.node) (λ e. T (below_all nat_cmp e.0 ((s.node, s.rack) ∷ []))) (entries C.nodes) nodes_below (λ e less. both _ _ (less_by_number e.0 s.node less) tt))

pub restored_node_is_saved : law.restored_node_is_saved
unfolding saved_nodes restore_node
restored_node_is_saved C last s L up_to none =
    let ok = fine_node C last s none in
    let D = restore_node C s in
    ap (map (λ e. saved_node D e.0 e.1)) (nodes_after C last s L up_to ok)
    ∙ map-append (λ (e : ℕ × ℕ). saved_node D e.0 e.1) (entries C.nodes) ((s.node, s.rack) ∷ [])
    ∙ (λ i. other_nodes C last s L up_to ok (entries C.nodes) (nodes_below C last s L up_to ok) i ++ (node_after C last s L up_to ok i ∷ []))
