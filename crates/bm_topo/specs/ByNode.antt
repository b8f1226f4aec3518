-- The storages of a cluster, node by node.
use Rattle.std.specs.Prelude.{◌≡◌, ℕ, ◌==◌, List, filter, length, option_map, unwrap_or}
use Rattle.std.specs.List.Sorted.{IsNonDecreasingBy}
use Rattle.bm_base.specs.declared.storage.StorageInfo.{StorageInfo}
use Rattle.bm_base.specs.Maps.Map.{Map, by_number, get, keys}

-- the node of a storage; 0 of one that the table does not have
unfoldable pub node_in : Map by_number StorageInfo → ℕ → ℕ
node_in storages s = unwrap_or (option_map (λ (i : StorageInfo). i.node) (get storages s)) 0

-- `ss` has the storages `ks`, sorted by node; the storages of one node are in the order of `ks`
pub record AreByNode (node : ℕ → ℕ) (ks ss : List ℕ) : Type 0 where
  pub in_order : IsNonDecreasingBy node ss
  pub each : (n : ℕ) → filter (λ s. node s == n) ss ≡ filter (λ s. node s == n) ks
  pub many : length ss ≡ length ks

-- these are all storages of a table, sorted by node
abbrev pub AreAllByNode : Map by_number StorageInfo → List ℕ → Type 0
AreAllByNode storages ss = AreByNode (node_in storages) (keys storages) ss
