-- In storages sorted by node, those of a node are adjacent, in the order of the table.
use Rattle.std.specs.Prelude.{◌==◌, ◌&&◌, nat_lt, nat_le, option_map, unwrap_or}
use Rattle.std.specs.Option.{option_map_or}
use Rattle.std.specs.List.{insert}
use Rattle.std.specs.List.Sorted.{IsNonDecreasingBy, IsPartitionPoint}
use Rattle.std.proofs.Common.{◌≡◌, ◌≤◌, ◌<◌, ◌+◌, ◌-◌, ℕ, zero, suc, Bool, true, false, cond, List, [], ◌∷◌, ◌++◌, length, map, filter, take, drop, get_or, Option, Some, None, is_some, refl, sym, ap, subst, ◌∙◌, arith}
use Rattle.std.proofs.lemmas.Bool.{eqb-true}
use Rattle.std.proofs.lemmas.Bool.Decides.{nat_tests}
use Rattle.std.proofs.lemmas.List.{append-nil, length-map, length_push, take_all, take_more, take-append-drop, length-take-le}
use Rattle.std.proofs.lemmas.List.Edits.{length-insert}
use Rattle.std.proofs.lemmas.List.Sorted.{IsNonDecreasingBy-insert, IsNonDecreasingBy-short}
use Rattle.std.proofs.Math.ListN.{get_or-map}
use Rattle.std.proofs.Math.Bool.{and-true}
use Rattle.bm_base.specs.declared.storage.StorageInfo.{StorageInfo}
use Rattle.bm_base.specs.declared.event.Remaining.{Remaining}
use Rattle.bm_base.specs.Words.{Map, by_number, empty, get, keys, entries, len, contains_key, revise, revise_at, has, set_remaining, Cluster, node_of, has_storage}
use Rattle.bm_base.proofs.ClusterEvents.{same_nodes}
use Rattle.bm_base.proofs.Differences.{both_parts}
use Rattle.bm_base.proofs.ForEach.{Each, each_all, each_take, each_both, each_then}
use Rattle.bm_base.proofs.ListTests.{filter_append, has_filter}
use Rattle.bm_base.proofs.MapLaws.{entries-revise}
use Rattle.bm_base.proofs.MapEntries.{each_key}
use Rattle.bm_base.proofs.Sets.{has_keys}
use Rattle.bm_topo.proofs.SpotTable.{entry_there, same_count}
use Rattle.bm_topo.specs.ByNode.{node_in, AreByNode, AreAllByNode}

-- Elements before an index, and from it on.
module _ {X : Type 0} (P : X → Type 0) where
  pub each_before : (xs : List X) (i : ℕ) → ((k : ℕ) (d : X) → k < i → P (get_or xs k d)) → Each P (take i xs)
  each_before xs zero h = tt
  each_before [] (suc i) h = tt
  each_before (x ∷ xs) (suc i) h = (h 0 x (omega arith), each_before xs i (λ k d lt. h (suc k) d (omega arith)))

  pub each_from : (xs : List X) (i : ℕ) → ((k : ℕ) (d : X) → i ≤ k → k < length xs → P (get_or xs k d)) → Each P (drop i xs)
  each_from xs zero h = each_all P xs (λ k d lt. h k d (omega arith) lt)
  each_from [] (suc i) h = tt
  each_from (x ∷ xs) (suc i) h = each_from xs i (λ k d le lt. h (suc k) d (omega arith) (omega arith))

-- Filters that leave nothing, or all, or the same.
module _ {X : Type 0} (p : X → Bool) where
  pub none_left : (xs : List X) → Each (λ x. p x ≡ false) xs → filter p xs ≡ []
  none_left [] h = refl
  none_left (x ∷ xs) h = ap (λ b. cond b (x ∷ filter p xs) (filter p xs)) h.0 ∙ none_left xs h.1

  pub all_left : (xs : List X) → Each (λ x. p x ≡ true) xs → filter p xs ≡ xs
  all_left [] h = refl
  all_left (x ∷ xs) h = ap (λ b. cond b (x ∷ filter p xs) (filter p xs)) h.0 ∙ ap (λ ys. x ∷ ys) (all_left xs h.1)

  same_left : (q : X → Bool) (xs : List X) → Each (λ x. p x ≡ q x) xs → filter p xs ≡ filter q xs
  same_left q [] h = refl
  same_left q (x ∷ xs) h = λ i. cond (h.0 i) (x ∷ same_left q xs h.1 i) (same_left q xs h.1 i)

  pub parted : (xs : List X) (i : ℕ) → filter p (take i xs) ++ filter p (drop i xs) ≡ filter p xs
  parted xs i = sym (filter_append p (take i xs) (drop i xs)) ∙ ap (filter p) (take-append-drop i xs)

-- Tests of numbers.

above : (a m n : ℕ) → nat_le a m ≡ false → m ≡ n → (a == n) ≡ false
above a m n h e = grind (arith, h, e, nat_tests)

pub differs_below : (a n : ℕ) → nat_lt a n ≡ true → (a == n) ≡ false
differs_below a n h = grind (arith, h, nat_tests)

pub differs_above : (a n : ℕ) → nat_le a n ≡ false → (a == n) ≡ false
differs_above a n h = grind (arith, h, nat_tests)

pub same_between : (a n : ℕ) → nat_lt a n ≡ false → nat_le a n ≡ true → (a == n) ≡ true
same_between a n h g = grind (arith, h, g, nat_tests)

at_most : (a n : ℕ) → nat_le a n ≡ true → a ≤ n
at_most a n h = grind (arith, h, nat_tests)

more : (a n : ℕ) → nat_le a n ≡ false → n ≤ a
more a n h = grind (arith, h, nat_tests)

no_more : (a m n : ℕ) → a ≤ m → m ≤ n → nat_le a n ≡ true
no_more a m n h g = grind (arith, h, g, nat_tests)

module _ (key : ℕ → ℕ) where
  -- if the last one is of this node or a lesser one, all are
  pub after_all : (ss : List ℕ) (n : ℕ) → IsNonDecreasingBy key ss → ((d : ℕ) → 0 < length ss → key (get_or ss (length ss - 1) d) ≤ n)
      → IsPartitionPoint (λ t. nat_le (key t) n ≡ true) (λ t. nat_le (key t) n ≡ false) ss (length ss)
  after_all ss n sorted last = (
    λ k d le lt. no_more (key (get_or ss k d)) (key (get_or ss (length ss - 1) d)) n (sorted k (length ss - 1) d (omega (arith, lt)) (omega (arith, lt))) (last d (omega (arith, lt))),
    λ k d le lt. absurd (omega (arith, le, lt)),
  )

  -- the next storage comes after all that are of its node or of lesser ones
  module _ (ks ss : List ℕ) (s index : ℕ) (within : index ≤ length ss)
      (point : IsPartitionPoint (λ t. nat_le (key t) (key s) ≡ true) (λ t. nat_le (key t) (key s) ≡ false) ss index) where
    in_order_with : IsNonDecreasingBy key ss → IsNonDecreasingBy key (insert ss index s)
    in_order_with sorted =
        IsNonDecreasingBy-insert key ss index s sorted within (λ k d lt. at_most (key (get_or ss k d)) (key s) (point.0 k d (omega arith) lt))
        (λ k d le lt. more (key (get_or ss k d)) (key s) (point.1 k d le lt))

    each_with : (n : ℕ) → filter (λ t. key t == n) ss ≡ filter (λ t. key t == n) ks → filter (λ t. key t == n) (insert ss index s) ≡ filter (λ t. key t == n) (ks ++ s ∷ [])
    each_with n same =
        let p : ℕ → Bool = λ t. key t == n in
        let whole : filter p (take index ss) ++ filter p (drop index ss) ≡ filter p ks = parted p ss index ∙ same in
        filter_append p (take index ss) (s ∷ drop index ss)
        ∙ (elim (key s == n) as (λ b. (key s == n) ≡ b → filter p (take index ss) ++ cond b (s ∷ filter p (drop index ss)) (filter p (drop index ss)) ≡ filter p ks ++ cond b (s ∷ []) []) [
          | true ↦ λ t.
              let none : filter p (drop index ss) ≡ [] =
              none_left p (drop index ss) (each_from (λ x. p x ≡ false) ss index (λ k d le lt. above (key (get_or ss k d)) (key s) n (point.1 k d le lt) (eqb-true (key s) n t))) in
              let front : filter p (take index ss) ≡ filter p ks = sym (append-nil (filter p (take index ss))) ∙ ap (λ xs. filter p (take index ss) ++ xs) (sym none) ∙ whole in
              (λ i. front i ++ s ∷ none i)
          | false ↦ λ _. whole ∙ sym (append-nil (filter p ks))
        ]) refl
        ∙ sym (filter_append p ks (s ∷ []))

  -- two binary searches find those of a node
  pub found_of : (ss rest : List ℕ) (n first count : ℕ) → rest ≡ drop first ss → IsPartitionPoint (λ t. nat_lt (key t) n ≡ true) (λ t. nat_lt (key t) n ≡ false) ss first
      → IsPartitionPoint (λ t. nat_le (key t) n ≡ true) (λ t. nat_le (key t) n ≡ false) rest count → take count rest ≡ filter (λ t. key t == n) ss
  found_of ss rest n first count is start end =
      let p : ℕ → Bool = λ t. key t == n in
      let before : filter p (take first ss) ≡ [] = none_left p (take first ss) (each_before (λ x. p x ≡ false) ss first (λ k d lt. differs_below (key (get_or ss k d)) n (start.0 k d (omega arith) lt))) in
      let not_less : Each (λ t. nat_lt (key t) n ≡ false) rest = subst (Each (λ t. nat_lt (key t) n ≡ false)) (sym is) (each_from (λ t. nat_lt (key t) n ≡ false) ss first start.1) in
      let no_more : Each (λ t. nat_le (key t) n ≡ true) (take count rest) = each_before (λ t. nat_le (key t) n ≡ true) rest count (λ k d lt. end.0 k d (omega arith) lt) in
      let own : Each (λ t. p t ≡ true) (take count rest) =
      each_then (λ t. (nat_lt (key t) n ≡ false) × (nat_le (key t) n ≡ true)) (λ t. p t ≡ true) (take count rest)
      (each_both (λ t. nat_lt (key t) n ≡ false) (λ t. nat_le (key t) n ≡ true) (take count rest) (each_take (λ t. nat_lt (key t) n ≡ false) count rest not_less) no_more) (λ t h. same_between (key t) n h.0 h.1) in
      let after : filter p (drop count rest) ≡ [] = none_left p (drop count rest) (each_from (λ x. p x ≡ false) rest count (λ k d le lt. differs_above (key (get_or rest k d)) n (end.1 k d le lt))) in
      sym (append-nil (take count rest)) ∙ (λ i. sym (all_left p (take count rest) own) i ++ sym after i) ∙ parted p rest count ∙ ap (filter p) is ∙ (λ i. sym before i ++ filter p (drop first ss)) ∙ parted p ss first

none_by_node : (key : ℕ → ℕ) → AreByNode key [] []
none_by_node key = record { in_order = IsNonDecreasingBy-short key [] (omega arith); each = λ n. refl; many = refl }

no_keys : keys {o = by_number} (empty {X = StorageInfo}) ≡ []
unfolding keys entries empty
no_keys = refl

pub none_known : (storages : Map by_number StorageInfo) (ss : List ℕ) → storages ≡ empty → ss ≡ [] → AreAllByNode storages ss
none_known storages ss is none =
    subst (λ m. AreAllByNode m ss) (sym is) (subst (λ xs. AreByNode (node_in empty) xs ss) (sym no_keys) (subst (AreByNode (node_in empty) []) (sym none) (none_by_node (node_in empty))))

pub one_more : (storages : Map by_number StorageInfo) (ks ss : List ℕ) (s index n : ℕ) → node_in storages s ≡ n → index ≤ length ss
    → IsPartitionPoint (λ t. nat_le (node_in storages t) n ≡ true) (λ t. nat_le (node_in storages t) n ≡ false) ss index → AreByNode (node_in storages) ks ss → AreByNode (node_in storages) (ks ++ s ∷ []) (insert ss index s)
one_more storages ks ss s index n at within parts h =
    let point = subst (λ m. IsPartitionPoint (λ t. nat_le (node_in storages t) m ≡ true) (λ t. nat_le (node_in storages t) m ≡ false) ss index) (sym at) parts in
    record {
      in_order = in_order_with (node_in storages) ks ss s index within point h.in_order;
      each = λ m. each_with (node_in storages) ks ss s index within point m (h.each m);
      many = length-insert ss index s within ∙ ap (λ k. k + 1) h.many ∙ sym (length_push ks s);
    }

-- The step of a loop over the entries of a table, for the entry at the loop's index.

node_there : (m : Map by_number StorageInfo) (s : ℕ) (i : StorageInfo) → get m s ≡ Some i → node_in m s ≡ i.node
unfolding node_in
node_there m s i is = ap (λ o. unwrap_or (option_map (λ (x : StorageInfo). x.node) o) 0) is

pub count_keys : (m : Map by_number StorageInfo) → length (keys m) ≡ len m
unfolding keys len
count_keys m = length-map (entries m) (λ e. e.0)

module _ (m : Map by_number StorageInfo) (es : List (ℕ × StorageInfo)) (i : ℕ) (is : es ≡ entries m) where
  next_key : (e : ℕ × StorageInfo) → i < length es → e ≡ get_or es i e → take (i + 1) (keys m) ≡ take i (keys m) ++ e.0 ∷ []
  unfolding keys
  next_key e differs_below read =
      let many : length (map (λ (x : ℕ × StorageInfo). x.0) (entries m)) ≡ length es = length-map (entries m) (λ (x : ℕ × StorageInfo). x.0) ∙ ap length (sym is) in
      take_more (map (λ (x : ℕ × StorageInfo). x.0) (entries m)) i e.0 (omega (arith, many, differs_below))
      ∙ ap (λ k. take i (map (λ (x : ℕ × StorageInfo). x.0) (entries m)) ++ k ∷ [])
      (get_or-map (λ (x : ℕ × StorageInfo). x.0) (entries m) i e ∙ ap (λ (x : ℕ × StorageInfo). x.0) (ap (λ xs. get_or xs i e) (sym is) ∙ sym read))

  pub placed : (ss seen new : List ℕ) (e : ℕ × StorageInfo) (index : ℕ) → seen ≡ ss → i < length es → e ≡ get_or es i e → index ≤ length seen
      → (IsNonDecreasingBy (node_in m) seen → IsPartitionPoint (λ t. nat_le (node_in m t) e.1.node ≡ true) (λ t. nat_le (node_in m t) e.1.node ≡ false) seen index)
      → new ≡ insert ss index e.0 → AreByNode (node_in m) (take i (keys m)) ss → AreByNode (node_in m) (take (i + 1) (keys m)) new
  placed ss seen new e index same differs_below read within parts made h =
      let key = node_in m in
      let node = node_there m e.0 e.1 (entry_there m es i e is differs_below read) in
      let before = subst (AreByNode key (take i (keys m))) (sym same) h in
      let after = one_more m (take i (keys m)) seen e.0 index e.1.node node within (parts before.in_order) before in
      subst (λ xs. AreByNode key xs new) (sym (next_key e differs_below read)) (subst (AreByNode key (take i (keys m) ++ e.0 ∷ [])) (ap (λ xs. insert xs index e.0) same ∙ sym made) after)

  pub capacity_left : (ss : List ℕ) (bound : ℕ) → i < length es → len m ≤ bound → AreByNode (node_in m) (take i (keys m)) ss → length ss < bound
  capacity_left ss bound differs_below few h =
      let count = same_count m es is in
      let long = length-take-le i (keys m) (omega (arith, count, count_keys m, differs_below)) in
      omega (arith, h.many, long, count, differs_below, few)

  pub all_placed : (ss : List ℕ) → length es ≤ i → AreByNode (node_in m) (take i (keys m)) ss → AreAllByNode m ss
  all_placed ss past h = let count = same_count m es is in subst (λ xs. AreByNode (node_in m) xs ss) (take_all i (keys m) (omega (arith, count, count_keys m, past))) h

-- the storages of a node in a table are those of the node in the cluster
known_own : (C : Cluster) (n s : ℕ) → contains_key C.storages s ≡ true → (node_in C.storages s == n) ≡ has_storage C n s
unfolding node_in has_storage node_of
known_own C n s = by (get C.storages s)
  where
    by : (o : Option StorageInfo) → is_some o ≡ true → (unwrap_or (option_map (λ (i : StorageInfo). i.node) o) 0 == n) ≡ option_map_or (λ m. m == n) (option_map (λ (i : StorageInfo). i.node) o) false
    by None e = cc
    by (Some i) e = refl

pub own_storages : (C : Cluster) (n : ℕ) → filter (λ s. node_in C.storages s == n) (keys C.storages) ≡ filter (has_storage C n) (keys C.storages)
own_storages C n =
    same_left (λ s. node_in C.storages s == n) (has_storage C n) (keys C.storages)
    (each_then (λ s. contains_key C.storages s ≡ true) (λ s. (node_in C.storages s == n) ≡ has_storage C n s) (keys C.storages) (each_key C.storages) (λ s known. known_own C n s known))

pub own_each : (C : Cluster) (n s : ℕ) → has (filter (has_storage C n) (keys C.storages)) s ≡ has_storage C n s
unfolding has_storage node_of
own_each C n s = has_filter (has_storage C n) (keys C.storages) s ∙ ap (λ b. has_storage C n s && b) (has_keys C.storages s) ∙ by (get C.storages s)
  where
    by : (o : Option StorageInfo) → (option_map_or (λ m. m == n) (option_map (λ (i : StorageInfo). i.node) o) false && is_some o) ≡ option_map_or (λ m. m == n) (option_map (λ (i : StorageInfo). i.node) o) false
    by None = refl
    by (Some i) = and-true (i.node == n)

pub own_few : (C : Cluster) (n : ℕ) → length (filter (has_storage C n) (keys C.storages)) ≤ len C.storages
own_few C n = let parts = both_parts (has_storage C n) (keys C.storages) in omega (arith, parts, count_keys C.storages)

-- A heartbeat moves no storage.

same_firsts : (f : ℕ → StorageInfo → StorageInfo) (es : List (ℕ × StorageInfo)) → map (λ (e : ℕ × StorageInfo). e.0) (map (λ (e : ℕ × StorageInfo). (e.0, f e.0 e.1)) es) ≡ map (λ (e : ℕ × StorageInfo). e.0) es
same_firsts f [] = refl
same_firsts f (e ∷ es) = ap (λ xs. e.0 ∷ xs) (same_firsts f es)

keys-revised : (m : Map by_number StorageInfo) (f : ℕ → StorageInfo → StorageInfo) → keys (revise m f) ≡ keys m
unfolding keys
keys-revised m f = ap (map (λ (e : ℕ × StorageInfo). e.0)) (entries-revise by_number m f) ∙ same_firsts f (entries m)

keys-reported : (rs : List Remaining) (m : Map by_number StorageInfo) → keys (set_remaining m rs) ≡ keys m
unfolding revise_at
keys-reported [] m = refl
keys-reported (r ∷ rs) m = keys-reported rs (revise_at m r.storage (λ i. record i { remaining = r.remaining })) ∙ keys-revised m _

pub by_node_reported : (old new : Map by_number StorageInfo) (rs : List Remaining) (ss : List ℕ) → new ≡ set_remaining old rs → AreAllByNode old ss → AreAllByNode new ss
unfolding node_in
by_node_reported old new rs ss is h =
    let nodes : (s : ℕ) → node_in old s ≡ node_in new s = λ s. ap (λ o. unwrap_or o 0) (sym (same_nodes old rs s)) ∙ ap (λ m. node_in m s) (sym is) in
    subst (λ (x : (ℕ → ℕ) × List ℕ). AreByNode x.0 x.1 ss) (λ i. (λ s. nodes s i, (sym (keys-reported rs old) ∙ ap keys (sym is)) i)) h
