-- No node that is saved of a lawful cluster has a fault.
use Rattle.std.proofs.Common.{◌≡◌, ℕ, suc, ◌+◌, ◌<◌, ◌≤◌, Bool, true, false, cond, not, ◌||◌, List, [], ◌∷◌, map, filter, length, Option, Some, None, refl, sym, ap, subst, ◌∙◌, arith, T, le-ltb, lt-ltb, ltb-true, eqb-true}
use Rattle.std.specs.Prelude.{◌==◌, nat_lt, unwrap_or}
use Rattle.std.specs.Ordering.{nat_cmp}
use Rattle.std.specs.FinMap.{is_sorted}
use Rattle.std.specs.List.{list_any}
use Rattle.std.proofs.lemmas.Bool.{lt-leb, and_parts}
use Rattle.std.proofs.lemmas.List.{length-map}
use Rattle.bm_base.specs.declared.storage.StorageInfo.{StorageInfo}
use Rattle.bm_base.specs.declared.limits.Limits.{Limits}
use Rattle.bm_base.specs.Words.{Map, by_number, entries, get, insert_all, keep, contains_key, empty, len, Cluster, empty_cluster, knows_storage}
use Rattle.bm_base.specs.Promises.Lawful.{IsLawfulCluster}
use Rattle.bm_base.proofs.ForEach.{Each, each_both, each_filtered, each_mapped, each_passing, each_then}
use Rattle.bm_base.proofs.MapLaws.{entries-keep, get-empty}
use Rattle.bm_base.proofs.MapEntries.{Holds, each_entry, holds_insert_all, len_inserted, len_insert_all}
use Rattle.bm_base.proofs.Options.{there}
use Rattle.bm_saved.specs.Saved.{saved_storage, saved_node, saved_nodes}
use Rattle.bm_saved.specs.Restoring.{storage_entry, restore_node}
use Rattle.bm_saved.specs.Faults.{is_above, ascend_above, ascend, saved_node_checks, node_fault, HaveNoNodeFaults}
use Rattle.bm_saved.specs.Laws as law
use Rattle.bm_saved.proofs.Checks.{none_of, map_twice, no_faults, below_next, ascending_keys}
use Rattle.bm_saved.proofs.RestoredCluster.{storages_again}

-- Lengths of filtered lists.

one_more : {X : Type 0} (b : Bool) (x : X) (xs : List X) → length (cond b (x ∷ xs) xs) ≡ cond b 1 0 + length xs
one_more true x xs = omega arith
one_more false x xs = omega arith

-- what passes one of two tests passes a third, and nothing passes both
two_of : {X : Type 0} (p q r : X → Bool) → ((x : X) → cond (p x) 1 0 + cond (q x) 1 0 ≤ cond (r x) 1 0) → (xs : List X)
    → length (filter p xs) + length (filter q xs) ≤ length (filter r xs)
two_of p q r h [] = omega arith
two_of p q r h (x ∷ xs) =
    let a : length (filter p (x ∷ xs)) ≡ cond (p x) 1 0 + length (filter p xs) = one_more (p x) x (filter p xs) in
    let b : length (filter q (x ∷ xs)) ≡ cond (q x) 1 0 + length (filter q xs) = one_more (q x) x (filter q xs) in
    let c : length (filter r (x ∷ xs)) ≡ cond (r x) 1 0 + length (filter r xs) = one_more (r x) x (filter r xs) in
    let each = h x in
    let rest = two_of p q r h xs in
    omega (arith, a, b, c, each, rest)

all_of : {X : Type 0} (p : X → Bool) (xs : List X) → length (filter p xs) ≤ length xs
all_of p [] = omega arith
all_of p (x ∷ xs) =
    let a : length (filter p (x ∷ xs)) ≡ cond (p x) 1 0 + length (filter p xs) = one_more (p x) x (filter p xs) in
    let most : cond (p x) 1 0 ≤ 1 = at_most (p x) in
    let rest = all_of p xs in
    omega (arith, a, most, rest)
  where
    at_most : (b : Bool) → cond b 1 0 ≤ 1
    at_most true = omega arith
    at_most false = omega arith

pub len_empty : (X : Type 0) → len (empty {X = X} {o = by_number}) ≡ 0
unfolding len entries empty
len_empty X = refl

length_is : {X : Type 0} (m : Map by_number X) → len m ≡ length (entries m)
unfolding len
length_is m = refl

module _ (C : Cluster) (L : IsLawfulCluster C) where
  abbrev Entry : Type 0
  Entry = ℕ × StorageInfo

  abbrev own : ℕ → List Entry
  own n = filter (λ e. e.1.node == n) (entries C.storages)

  -- the storages of nodes after the last one
  abbrev later : Option ℕ → List Entry
  later last = filter (λ e. is_above last e.1.node) (entries C.storages)

  -- the cluster D of the nodes that were read, before as many others
  record IsPart (D : Cluster) (last : Option ℕ) (left : ℕ) : Type 0 where
    limits : D.limits ≡ C.limits
    nodes : len D.nodes + left ≤ C.limits.nodes
    storages : Holds (λ s i. (is_above last i.node ≡ false) × (get C.storages s ≡ Some i)) D.storages
    few_storages : len D.storages + length (later last) ≤ C.limits.storages

  own_sorted : (n : ℕ) → T (is_sorted nat_cmp (own n))
  unfolding entries
  own_sorted n = subst (λ es. T (is_sorted nat_cmp es)) (entries-keep by_number C.storages (λ _ i. i.node == n)) ((keep C.storages (λ _ i. i.node == n)).sorted)

  own_each : (n : ℕ) → Each (λ e. (get C.storages e.0 ≡ Some e.1) × ((e.1.node == n) ≡ true)) (own n)
  own_each n =
      each_both (λ e. get C.storages e.0 ≡ Some e.1) (λ e. (e.1.node == n) ≡ true) (own n)
      (each_filtered (λ e. get C.storages e.0 ≡ Some e.1) (λ e. e.1.node == n) (entries C.storages) (each_entry C.storages))
      (each_passing (λ e. e.1.node == n) (entries C.storages))

  -- the storages of a node are not among those of earlier nodes
  parted : (last : Option ℕ) (n : ℕ) → is_above last n ≡ true → length (own n) + length (later (Some n)) ≤ length (later last)
  parted last n above = two_of (λ (e : Entry). e.1.node == n) (λ e. nat_lt n e.1.node) (λ e. is_above last e.1.node) (λ e. at_node e.1.node) (entries C.storages)
    where
      itself : (m : ℕ) → (m == n) ≡ true → (nat_lt n m ≡ false) × (is_above last m ≡ true)
      itself m e = let is = eqb-true m n e in (le-ltb n m (omega (arith, is)), ap (is_above last) is ∙ above)

      greater : (last : Option ℕ) (m : ℕ) → is_above last n ≡ true → nat_lt n m ≡ true → is_above last m ≡ true
      greater None m h less = refl
      greater (Some l) m h less = let a = ltb-true l n h in let b = ltb-true n m less in lt-ltb l m (omega (arith, a, b))

      at_node : (m : ℕ) → cond (m == n) 1 0 + cond (nat_lt n m) 1 0 ≤ cond (is_above last m) 1 0
      at_node m = by (m == n) (nat_lt n m) refl refl
        where
          by : (a b : Bool) → (m == n) ≡ a → nat_lt n m ≡ b → cond (m == n) 1 0 + cond (nat_lt n m) 1 0 ≤ cond (is_above last m) 1 0
          by true b e f = let p = itself m e in rw e rw p.0 rw p.1 (omega arith)
          by false true e f = rw e rw f rw (greater last m above f) (omega arith)
          by false false e f = rw e rw f (omega arith)

  module _ (D : Cluster) (last : Option ℕ) (left n rack : ℕ) (P : IsPart D last (suc left)) (above : is_above last n ≡ true) where
    is_new : (e : Entry) → (get C.storages e.0 ≡ Some e.1) × ((e.1.node == n) ≡ true) → contains_key D.storages e.0 ≡ false
    is_new e at = by (contains_key D.storages e.0) refl
      where
        some_is : (i j : StorageInfo) → Some i ≡ Some j → i ≡ j
        some_is i j e = ap (λ o. unwrap_or o i) e

        by : (b : Bool) → contains_key D.storages e.0 ≡ b → contains_key D.storages e.0 ≡ false
        by false h = h
        by true h =
            let x = there (get D.storages e.0) h in
            let was = P.storages e.0 x.0 x.1 in
            let less = below_next last x.0.node n was.0 above in
            let node : x.0.node ≡ n = ap (λ (i : StorageInfo). i.node) (some_is x.0 e.1 (sym was.1 ∙ at.0)) ∙ eqb-true e.1.node n at.1 in
            absurd (omega (arith, less, node))

    all_new : list_any (knows_storage D) (map (λ e. e.0) (own n)) ≡ false
    unfolding knows_storage
    all_new = none_of (contains_key D.storages) (map (λ e. e.0) (own n)) (each_mapped (λ s. contains_key D.storages s ≡ false) (λ e. e.0) (own n) (each_then (λ e. (get C.storages e.0 ≡ Some e.1) × ((e.1.node == n) ≡ true)) (λ e. contains_key D.storages e.0 ≡ false) (own n) (own_each n) is_new))

    few_enough : len D.storages + length (map saved_storage (own n)) ≤ D.limits.storages
    few_enough =
        let same = length-map (own n) saved_storage in
        let limits = ap (λ (l : Limits). l.storages) P.limits in
        omega (arith, same, limits, parted last n above, P.few_storages)

    one_left : len D.nodes < D.limits.nodes
    one_left = let limits = ap (λ (l : Limits). l.nodes) P.limits in omega (arith, limits, P.nodes)

    no_fault : node_fault D last (saved_node C n rack) ≡ None
    unfolding node_fault saved_node_checks saved_node
    no_fault =
        let ids = map_twice (λ r. r.storage) saved_storage (own n) in
        no_faults (saved_node_checks D last (saved_node C n rack)) (
          ap not above,
          (
            ap not (ap ascend ids ∙ ascending_keys (own n) (own_sorted n)),
            (
              ap (list_any (knows_storage D)) ids ∙ all_new,
              (
                (λ i. lt-leb D.limits.nodes (len D.nodes) one_left i || le-ltb D.limits.storages (len D.storages + length (map saved_storage (own n))) few_enough i),
                tt,
              ),
            ),
          ),
        )

    abbrev Fits : ℕ → StorageInfo → Type 0
    Fits s i = (is_above (Some n) i.node ≡ false) × (get C.storages s ≡ Some i)

    next : IsPart (restore_node D (saved_node C n rack)) (Some n) left
    unfolding restore_node saved_node
    next = record {
      limits = P.limits;
      nodes = omega (arith, len_inserted D.nodes n rack, P.nodes);
      storages = subst (λ es. Holds Fits (insert_all D.storages es)) (sym (storages_again n (entries C.storages)))
          (holds_insert_all Fits D.storages (own n)
          (λ s i e. let was = P.storages s i e in let less = below_next last i.node n was.0 above in (le-ltb n i.node (omega (arith, less)), was.1))
          (each_then (λ e. (get C.storages e.0 ≡ Some e.1) × ((e.1.node == n) ≡ true)) (λ e. Fits e.0 e.1) (own n) (own_each n) (λ e at. let is = eqb-true e.1.node n at.1 in (le-ltb n e.1.node (omega (arith, is)), at.0))));
      few_storages =
          let es = map (storage_entry n) (map saved_storage (own n)) in
          let one = length-map (map saved_storage (own n)) (storage_entry n) in
          let two = length-map (own n) saved_storage in
          omega (arith, len_insert_all D.storages es, one, two, parted last n above, P.few_storages);
    }

  all_fine : (D : Cluster) (last : Option ℕ) (ns : List (ℕ × ℕ)) → IsPart D last (length ns) → ascend_above last (map (λ e. e.0) ns) ≡ true → HaveNoNodeFaults D last (map (λ e. saved_node C e.0 e.1) ns)
  unfolding saved_node
  all_fine D last [] P up = tt
  all_fine D last (e ∷ ns) P up =
      let p = and_parts (is_above last e.0) (ascend_above (Some e.0) (map (λ e. e.0) ns)) up in
      (no_fault D last (length ns) e.0 e.1 P p.0, all_fine (restore_node D (saved_node C e.0 e.1)) (Some e.0) ns (next D last (length ns) e.0 e.1 P p.0) p.1)

  at_first : IsPart (empty_cluster C.limits) None (length (entries C.nodes))
  unfolding empty_cluster
  at_first = record {
    limits = refl;
    nodes = let none = len_empty ℕ in omega (arith, none, length_is C.nodes, L.few_nodes);
    storages = λ s i e. cc (e, get-empty {X = StorageInfo} by_number s);
    few_storages = let none = len_empty StorageInfo in omega (arith, none, all_of (λ (e : Entry). is_above None e.1.node) (entries C.storages), length_is C.storages, L.few_storages);
  }

nodes_sorted : (C : Cluster) → ascend (map (λ e. e.0) (entries C.nodes)) ≡ true
unfolding entries
nodes_sorted C = ascending_keys C.nodes.list C.nodes.sorted

pub saved_nodes_have_no_faults : law.saved_nodes_have_no_faults
unfolding saved_nodes
saved_nodes_have_no_faults C L = all_fine C L (empty_cluster C.limits) None (entries C.nodes) (at_first C L) (nodes_sorted C)
