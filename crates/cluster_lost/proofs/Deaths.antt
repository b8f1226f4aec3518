-- After the deaths of nodes the rest of the state is as before.
use Rattle.std.proofs.Common.{◌≡◌, ◌∙◌, ℕ, Bool, true, false, cond, not, ◌&&◌, ◌||◌, List, [], ◌∷◌, Option, Some, None, is_some, refl, sym, ap, map, filter}
use Rattle.std.specs.Prelude.{◌==◌, option_map, option_and_then}
use Rattle.std.specs.List.{list_any}
use Rattle.std.specs.Option.{option_map_or}
use Rattle.std.specs.Ordering.{nat_cmp, eq_by_cmp}
use Rattle.std.proofs.lemmas.Bool.{or_parts}
use Rattle.bm_base.specs.declared.storage.StorageInfo.{StorageInfo}
use Rattle.bm_base.specs.declared.event.Event.TheVariants.{Dead}
use Rattle.bm_base.specs.Words.{State, Cluster, Map, by_number, by_replica, get, entries, keep, remove, node_of, rack_of, has_storage, drains, is_draining, without_node, without_storages, change_cluster, change_holdings, after_event}
use Rattle.bm_base.proofs.MapLaws.{same_map, get-keep, get-remove, entries-keep}
use Rattle.bm_base.proofs.MapEntries.{one_out}
use Rattle.bm_base.proofs.ListTests.{filter_filter}
use Rattle.bm_base.proofs.Options.{all_stays}
use Rattle.bm_base.proofs.Ties.{number_tie}
use Rattle.cluster_lost.specs.Losses.{after_losses, is_taken, takes}
use Rattle.cluster_lost.specs.Deaths.{IsWithout, death, is_among}

removed : {X : Type 0} (m : Map by_number X) (n : ℕ) → remove m n ≡ keep m (λ q _. not (eq_by_cmp nat_cmp q n))
removed m n = same_map (remove m n) (keep m (λ q _. not (eq_by_cmp nat_cmp q n))) (λ q. get-remove m n q ∙ one_out (eq_by_cmp nat_cmp q n) (get m q) ∙ sym (get-keep m (λ q _. not (eq_by_cmp nat_cmp q n)) q))

removed_entries : {X : Type 0} (m : Map by_number X) (n : ℕ) → entries (remove m n) ≡ filter (λ e. not (e.0 == n)) (entries m)
removed_entries m n = ap entries (removed m n) ∙ entries-keep by_number m (λ q _. not (eq_by_cmp nat_cmp q n)) ∙ (λ i. filter (λ e. not (number_tie e.0 n i)) (entries m))

removed_other : {X : Type 0} (m : Map by_number X) (n q : ℕ) → (q == n) ≡ false → get (remove m n) q ≡ get m q
removed_other m n q apart = get-remove m n q ∙ ap (λ b. cond b None (get m q)) (number_tie q n ∙ apart)

-- One death.

module _ (C : Cluster) (n : ℕ) where
  info_stays : (s : ℕ) → has_storage C n s ≡ false → get (without_node C n).storages s ≡ get C.storages s
  unfolding without_node
  info_stays s h = get-keep C.storages (λ s _. not (has_storage C n s)) s ∙ all_stays (not (has_storage C n s)) (get C.storages s) (ap not h)

  node_stays : (s : ℕ) → has_storage C n s ≡ false → node_of (without_node C n) s ≡ node_of C s
  unfolding node_of
  node_stays s h = ap (option_map (λ (i : StorageInfo). i.node)) (info_stays s h)

  drains_stays : (m : ℕ) → (m == n) ≡ false → drains (without_node C n) m ≡ drains C m
  unfolding without_node drains
  drains_stays m apart = ap is_some (removed_other C.draining n m apart)

  node_rack_stays : (m : ℕ) → (m == n) ≡ false → get (without_node C n).nodes m ≡ get C.nodes m
  unfolding without_node
  node_rack_stays m apart = removed_other C.nodes n m apart

  draining_stays : (s : ℕ) → has_storage C n s ≡ false → is_draining (without_node C n) s ≡ is_draining C s
  unfolding is_draining has_storage
  draining_stays s h = ap (λ o. option_map_or (drains (without_node C n)) o false) (node_stays s h) ∙ by (node_of C s) h
    where
      by : (o : Option ℕ) → option_map_or (λ m. m == n) o false ≡ false → option_map_or (drains (without_node C n)) o false ≡ option_map_or (drains C) o false
      by None h = refl
      by (Some m) h = drains_stays m h

  rack_stays : (s : ℕ) → has_storage C n s ≡ false → rack_of (without_node C n) s ≡ rack_of C s
  unfolding rack_of has_storage
  rack_stays s h = ap (λ o. option_and_then (λ m. get (without_node C n).nodes m) o) (node_stays s h) ∙ by (node_of C s) h
    where
      by : (o : Option ℕ) → option_map_or (λ m. m == n) o false ≡ false → option_and_then (λ m. get (without_node C n).nodes m) o ≡ option_and_then (λ m. get C.nodes m) o
      by None h = refl
      by (Some m) h = node_rack_stays m h

  has_stays : (m s : ℕ) → has_storage C n s ≡ false → has_storage (without_node C n) m s ≡ has_storage C m s
  unfolding has_storage
  has_stays m s h = ap (λ o. option_map_or (λ k. k == m) o false) (node_stays s h)

one_death : (M : State) (n : ℕ) → IsWithout M (after_event M (Dead n)) (has_storage M.cluster n) (λ m. m == n)
unfolding after_event change_cluster change_holdings without_node without_storages
one_death M n = record {
  blocks = refl;
  replicas = entries-keep by_replica M.holdings.replicas (λ q _. not (has_storage M.cluster n q.storage));
  storages = entries-keep by_number M.cluster.storages (λ s _. not (has_storage M.cluster n s));
  nodes = removed_entries M.cluster.nodes n;
  info = info_stays M.cluster n;
  draining = draining_stays M.cluster n;
  racks = rack_stays M.cluster n;
}

-- Several.

neither : (a b c : Bool) → (a ≡ false → b ≡ c) → (not a && not b) ≡ not (a || c)
neither true b c same = refl
neither false b c same = ap not (same refl)

both_without : (M N O : State) (g h k d f : ℕ → Bool) → IsWithout M N g d → IsWithout N O h f → ((s : ℕ) → g s ≡ false → h s ≡ k s) → IsWithout M O (λ s. g s || k s) (λ m. d m || f m)
both_without M N O g h k d f one two same = record {
  blocks = two.blocks ∙ one.blocks;
  replicas =
      two.replicas ∙ ap (filter (λ e. not (h e.0.storage))) one.replicas ∙ filter_filter (λ e. not (h e.0.storage)) (λ e. not (g e.0.storage)) (entries M.holdings.replicas)
      ∙ (λ i. filter (λ e. neither (g e.0.storage) (h e.0.storage) (k e.0.storage) (same e.0.storage) i) (entries M.holdings.replicas));
  storages =
      two.storages ∙ ap (filter (λ e. not (h e.0))) one.storages ∙ filter_filter (λ e. not (h e.0)) (λ e. not (g e.0)) (entries M.cluster.storages)
      ∙ (λ i. filter (λ e. neither (g e.0) (h e.0) (k e.0) (same e.0) i) (entries M.cluster.storages));
  nodes =
      two.nodes ∙ ap (filter (λ e. not (f e.0))) one.nodes ∙ filter_filter (λ e. not (f e.0)) (λ e. not (d e.0)) (entries M.cluster.nodes)
      ∙ (λ i. filter (λ e. neither (d e.0) (f e.0) (f e.0) (λ _. refl) i) (entries M.cluster.nodes));
  info = λ s stays. let p = or_parts (g s) (k s) stays in two.info s (same s p.0 ∙ p.1) ∙ one.info s p.0;
  draining = λ s stays. let p = or_parts (g s) (k s) stays in two.draining s (same s p.0 ∙ p.1) ∙ one.draining s p.0;
  racks = λ s stays. let p = or_parts (g s) (k s) stays in two.racks s (same s p.0 ∙ p.1) ∙ one.racks s p.0;
}

taken_same : (C : Cluster) (n s : ℕ) (ns : List ℕ) → has_storage C n s ≡ false → is_taken (without_node C n) (map death ns) s ≡ is_taken C (map death ns) s
taken_same C n s [] h = refl
taken_same C n s (m ∷ ns) h = λ i. has_stays C n m s h i || taken_same C n s ns h i

all_kept : {X : Type 0} (xs : List X) → xs ≡ filter (λ _. true) xs
all_kept [] = refl
all_kept (x ∷ xs) = ap (λ ys. x ∷ ys) (all_kept xs)

pub without_none : (M : State) → IsWithout M M (λ _. false) (λ _. false)
without_none M = record {
  blocks = refl;
  replicas = all_kept (entries M.holdings.replicas);
  storages = all_kept (entries M.cluster.storages);
  nodes = all_kept (entries M.cluster.nodes);
  info = λ s h. refl;
  draining = λ s h. refl;
  racks = λ s h. refl;
}

pub without_dead : (M : State) (ns : List ℕ) → IsWithout M (after_losses M (map death ns)) (is_taken M.cluster (map death ns)) (is_among ns)
unfolding after_event change_cluster
without_dead M [] = without_none M
without_dead M (n ∷ ns) =
    both_without M (after_event M (Dead n)) (after_losses (after_event M (Dead n)) (map death ns)) (has_storage M.cluster n) (is_taken (without_node M.cluster n) (map death ns)) (is_taken M.cluster (map death ns)) (λ m. m == n) (is_among ns)
    (one_death M n) (without_dead (after_event M (Dead n)) ns) (λ s h. taken_same M.cluster n s ns h)
