-- What holds of the tables of a topology.
use Rattle.std.specs.Prelude.{ℕ, IsTrue}
use Rattle.bm_base.specs.declared.storage.StorageInfo.{StorageInfo}
use Rattle.bm_base.specs.declared.limits.Limits.{Limits}
use Rattle.bm_base.specs.Machine.Configuration.{are_allowed}
use Rattle.bm_base.specs.Words.{Map, Set, by_number, Cluster}
use Rattle.bm_base.specs.Promises.Lawful.{IsLawfulCluster}
use Rattle.bm_topo.specs.Keys.{HasSmallKeys}
use Rattle.bm_topo.specs.Racks.{CountsRacks}

-- the cluster of the tables, within these limits
abbrev pub cluster_of : Limits → Map by_number ℕ → Set by_number → Map by_number StorageInfo → Cluster
cluster_of l nodes draining storages = record { limits = l; nodes = nodes; draining = draining; storages = storages }

pub record IsSound (l : Limits) (nodes racks : Map by_number ℕ) (draining : Set by_number) (storages : Map by_number StorageInfo) : Type 0 where
  -- the limits are allowed, so the counts of nodes and storages have 32 bits too
  pub allowed : IsTrue (are_allowed l)
  -- numbers of nodes and storages have 32 bits
  pub node_ids : HasSmallKeys nodes
  pub storage_ids : HasSmallKeys storages
  pub counted : CountsRacks racks nodes
  -- each storage is on an alive node, only alive nodes drain, and the limits are kept
  pub lawful : IsLawfulCluster (cluster_of l nodes draining storages)
