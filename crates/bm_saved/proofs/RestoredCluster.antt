-- Restoring all nodes of a lawful cluster gives the cluster.
use Rattle.std.proofs.Common.{◌≡◌, ℕ, Bool, true, false, cond, ◌&&◌, ◌||◌, List, [], ◌∷◌, map, filter, flat_map, Option, Some, None, is_some, refl, sym, ap, ◌∙◌, eqb-true}
use Rattle.std.specs.Prelude.{◌==◌, if◌then◌else◌}
use Rattle.std.specs.List.{list_any}
use Rattle.bm_base.specs.declared.storage.StorageInfo.{StorageInfo}
use Rattle.bm_base.specs.Words.{Set, by_number, entries, get, insert, insert_all, contains_key, has, Cluster, empty_cluster, drains}
use Rattle.bm_base.specs.Promises.Lawful.{IsLawfulCluster}
use Rattle.bm_base.proofs.MapLaws.{same_map, get-insert, get-empty}
use Rattle.bm_base.proofs.MapEntries.{passes_entry}
use Rattle.bm_base.proofs.ListTests.{same_again, any_map}
use Rattle.bm_base.proofs.Options.{same_unit, there}
use Rattle.bm_base.proofs.Ties.{number_tie}
use Rattle.bm_parts.proofs.JoinedShares.{own_entries}
use Rattle.bm_saved.specs.Saved.{saved_storage, saved_node, saved_nodes}
use Rattle.bm_saved.specs.Restoring.{storage_entry, restore_node, restore_nodes}
use Rattle.bm_saved.specs.Laws as law
use Rattle.bm_saved.proofs.Groups.{group, groups_again}
use Rattle.bm_saved.proofs.RestoredHoldings.{insert_all-append}

abbrev node_number : ℕ × StorageInfo → ℕ
node_number e = e.1.node

again_is : (n : ℕ) (e : ℕ × StorageInfo) → (e.1.node == n) ≡ true → storage_entry n (saved_storage e) ≡ e
again_is n e t = λ i. (e.0, record { node = sym (eqb-true e.1.node n t) i; remaining = e.1.remaining })

again_head : (n : ℕ) (e : ℕ × StorageInfo) (es : List (ℕ × StorageInfo)) (fs : List (ℕ × StorageInfo)) (t : Bool) → (e.1.node == n) ≡ t → map (storage_entry n) (map saved_storage es) ≡ fs
    → map (storage_entry n) (map saved_storage (cond t (e ∷ es) es)) ≡ cond t (e ∷ fs) fs
again_head n e es fs true t rest = λ i. again_is n e t i ∷ rest i
again_head n e es fs false t rest = rest

pub storages_again : (n : ℕ) (es : List (ℕ × StorageInfo)) → map (storage_entry n) (map saved_storage (filter (λ e. e.1.node == n) es)) ≡ filter (λ e. e.1.node == n) es
storages_again n [] = refl
storages_again n (e ∷ es) = again_head n e (filter (λ e. e.1.node == n) es) (filter (λ e. e.1.node == n) es) (e.1.node == n) refl (storages_again n es)

restored_nodes : (C D : Cluster) (ns : List (ℕ × ℕ)) → (restore_nodes D (map (λ e. saved_node C e.0 e.1) ns)).nodes ≡ insert_all D.nodes ns
unfolding restore_node saved_node
restored_nodes C D [] = refl
restored_nodes C D (n ∷ ns) = restored_nodes C (restore_node D (saved_node C n.0 n.1)) ns

restored_storages : (C D : Cluster) (ns : List (ℕ × ℕ)) → (restore_nodes D (map (λ e. saved_node C e.0 e.1) ns)).storages ≡ insert_all D.storages (flat_map (group C.storages node_number) (map (λ n. n.0) ns))
unfolding restore_node saved_node
restored_storages C D [] = refl
restored_storages C D (n ∷ ns) =
    restored_storages C (restore_node D (saved_node C n.0 n.1)) ns
    ∙ ap (λ es. insert_all (insert_all D.storages es) (flat_map (group C.storages node_number) (map (λ n. n.0) ns))) (storages_again n.0 (entries C.storages))
    ∙ sym (insert_all-append D.storages (group C.storages node_number n.0) (flat_map (group C.storages node_number) (map (λ n. n.0) ns)))

-- The draining nodes.

after_one : (m : Set by_number) (n q : ℕ) (d : Bool) → get (if d then insert m n tt else m) q ≡ (if d then cond (q == n) (Some tt) (get m q) else get m q)
after_one m n q true = get-insert m n tt q ∙ ap (λ b. cond b (Some tt) (get m q)) (number_tie q n)
after_one m n q false = refl

more : (o : Option (Unit {0})) (b d e : Bool) → (b ≡ true → e ≡ d) → is_some (if d then cond b (Some tt) o else o) ≡ (is_some o || (b && e))
more (Some x) true true e h = refl
more (Some x) false true e h = refl
more (Some x) b false e h = refl
more None true true e h = sym (h refl)
more None false true e h = refl
more None true false e h = sym (h refl)
more None false false e h = refl

both_ways : (x b h e : Bool) → ((x || (b && e)) || (h && e)) ≡ (x || ((b || h) && e))
both_ways true b h e = refl
both_ways false true h true = refl
both_ways false true true false = refl
both_ways false true false false = refl
both_ways false false h e = refl

restored_draining : (C D : Cluster) (ns : List (ℕ × ℕ)) (q : ℕ) → contains_key (restore_nodes D (map (λ e. saved_node C e.0 e.1) ns)).draining q ≡ (contains_key D.draining q || (list_any (λ n. q == n.0) ns && drains C q))
unfolding restore_node saved_node
restored_draining C D [] q = none (contains_key D.draining q)
  where
    none : (x : Bool) → x ≡ (x || false)
    none true = refl
    none false = refl
restored_draining C D (n ∷ ns) q =
    restored_draining C (restore_node D (saved_node C n.0 n.1)) ns q
    ∙ ap (λ x. x || (list_any (λ k. q == k.0) ns && drains C q))
    (ap is_some (after_one D.draining n.0 q (drains C n.0)) ∙ more (get D.draining q) (q == n.0) (drains C n.0) (drains C q) (λ t. ap (drains C) (eqb-true q n.0 t)))
    ∙ both_ways (contains_key D.draining q) (q == n.0) (list_any (λ k. q == k.0) ns) (drains C q)

node_listed : (C : Cluster) (n : ℕ) → contains_key C.nodes n ≡ true → list_any (λ (k : ℕ × ℕ). n == k.0) (entries C.nodes) ≡ true
node_listed C n e = let x = there (get C.nodes n) e in passes_entry C.nodes (λ k. n == k.0) n x.0 x.1 (same_again n)

number_listed : (C : Cluster) (n : ℕ) → contains_key C.nodes n ≡ true → has (map (λ k. k.0) (entries C.nodes)) n ≡ true
number_listed C n e = let x = there (get C.nodes n) e in any_map (λ y. y == n) (λ k. k.0) (entries C.nodes) ∙ passes_entry C.nodes (λ k. k.0 == n) n x.0 x.1 (same_again n)

drains_or_not : (C : Cluster) → IsLawfulCluster C → (q : ℕ) (d : Bool) → drains C q ≡ d → (list_any (λ (k : ℕ × ℕ). q == k.0) (entries C.nodes) && drains C q) ≡ contains_key C.draining q
unfolding drains
drains_or_not C L q true e = (λ i. node_listed C q (L.draining_alive q e) i && e i) ∙ sym e
drains_or_not C L q false e = ap (λ d. list_any (λ (k : ℕ × ℕ). q == k.0) (entries C.nodes) && d) e ∙ never (list_any (λ (k : ℕ × ℕ). q == k.0) (entries C.nodes)) ∙ sym e
  where
    never : (x : Bool) → (x && false) ≡ false
    never true = refl
    never false = refl

same_limits : (C D : Cluster) (ns : List (ℕ × ℕ)) → (restore_nodes D (map (λ e. saved_node C e.0 e.1) ns)).limits ≡ D.limits
unfolding restore_node saved_node
same_limits C D [] = refl
same_limits C D (n ∷ ns) = same_limits C (restore_node D (saved_node C n.0 n.1)) ns

pub cluster_is_restored : law.cluster_is_restored
unfolding saved_nodes empty_cluster
cluster_is_restored C L =
    let ns = entries C.nodes in
    let D = empty_cluster C.limits in
    λ i. record {
      limits = same_limits C D ns i;
      nodes = (restored_nodes C D ns ∙ own_entries C.nodes) i;
      draining = same_map (restore_nodes D (map (λ e. saved_node C e.0 e.1) ns)).draining C.draining
          (λ q. same_unit _ _ (restored_draining C D ns q ∙ ap (λ x. is_some x || (list_any (λ k. q == k.0) ns && drains C q)) (get-empty by_number q) ∙ drains_or_not C L q (drains C q) refl)) i;
      storages = (restored_storages C D ns ∙ groups_again C.storages node_number (map (λ k. k.0) ns) (λ s x e. number_listed C x.node (L.alive s x e))) i;
    }
