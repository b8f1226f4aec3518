-- A storage that remains after a death, or after a storage's failure, keeps its rack and drains as
-- before.
use Rattle.std.proofs.Common.{◌≡◌, ◌≢◌, ℕ, false, not, Option, Some, None, is_some, refl, ap, ◌∙◌}
use Rattle.std.specs.Prelude.{◌==◌, option_and_then}
use Rattle.std.specs.Option.{option_map_or}
use Rattle.std.proofs.lemmas.Bool.{eqb-false, not_from_false}
use Rattle.bm_base.specs.Words.{get, Cluster, node_of, rack_of, has_storage, drains, is_draining, without_node, without_storage}
use Rattle.bm_base.proofs.Clusters.{same_node}
use Rattle.bm_parts.proofs.KeepLaws.{get-keep_there}
use Rattle.bm_base.proofs.MapEntries.{get_left}

drains_elsewhere : (C : Cluster) (n m : ℕ) → m ≢ n → drains (without_node C n) m ≡ drains C m
unfolding without_node drains
drains_elsewhere C n m other = ap is_some (get_left C.draining n m other)

node_elsewhere : (C : Cluster) (n s : ℕ) → has_storage C n s ≡ false → node_of (without_node C n) s ≡ node_of C s
unfolding without_node
node_elsewhere C n s h = same_node C (without_node C n) s (get-keep_there C.storages (λ t. not (has_storage C n t)) s (not_from_false (has_storage C n s) h))

pub draining_elsewhere : (C : Cluster) (n s : ℕ) → has_storage C n s ≡ false → is_draining (without_node C n) s ≡ is_draining C s
unfolding has_storage is_draining
draining_elsewhere C n s h = ap (λ z. option_map_or (drains (without_node C n)) z false) (node_elsewhere C n s h) ∙ by_node (node_of C s) h
  where
    by_node : (z : Option ℕ) → option_map_or (λ m. m == n) z false ≡ false → option_map_or (drains (without_node C n)) z false ≡ option_map_or (drains C) z false
    by_node None e = refl
    by_node (Some m) e = drains_elsewhere C n m (eqb-false m n e)

pub rack_elsewhere : (C : Cluster) (n s : ℕ) → has_storage C n s ≡ false → rack_of (without_node C n) s ≡ rack_of C s
unfolding has_storage rack_of without_node
rack_elsewhere C n s h = ap (option_and_then (λ m. get (without_node C n).nodes m)) (node_elsewhere C n s h) ∙ by_node (node_of C s) h
  where
    by_node : (z : Option ℕ) → option_map_or (λ m. m == n) z false ≡ false → option_and_then (λ m. get (without_node C n).nodes m) z ≡ option_and_then (λ m. get C.nodes m) z
    by_node None e = refl
    by_node (Some m) e = get_left C.nodes n m (eqb-false m n e)

-- A storage other than the one that failed.
module _ (C : Cluster) (t s : ℕ) (other : (s == t) ≡ false) where
  node_left : node_of (without_storage C t) s ≡ node_of C s
  unfolding without_storage
  node_left = same_node C (without_storage C t) s (get_left C.storages t s (eqb-false s t other))

  pub rack_left : rack_of (without_storage C t) s ≡ rack_of C s
  unfolding rack_of without_storage
  rack_left = ap (option_and_then (λ n. get C.nodes n)) node_left

  pub draining_left : is_draining (without_storage C t) s ≡ is_draining C s
  unfolding is_draining without_storage drains
  draining_left = ap (λ z. option_map_or (drains C) z false) node_left
