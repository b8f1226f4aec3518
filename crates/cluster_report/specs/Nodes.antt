-- The nodes of a state with their storages, as a report lists them.
use Rattle.std.specs.Prelude.{ℕ, List, map, filter, length, sum_by, unwrap_or, if◌then◌else◌}
use Rattle.bm_base.specs.Words.{get, keys, State, has_storage, drains, remaining, blocks_on, is_retired}
use Rattle.cluster_report.specs.Catalogues.{len_of}
use Rattle.cluster_report.specs.declared.nodes.NodeState.{NodeState}
use Rattle.cluster_report.specs.declared.nodes.NodeState.TheVariants.{Live, Draining, Retired}
use Rattle.cluster_report.specs.declared.nodes.StorageRow.{StorageRow}
use Rattle.cluster_report.specs.declared.nodes.NodeRow.{NodeRow}

-- a storage: its replicas of any tag, the bytes of their blocks, and its free bytes
abbrev pub storage_row : State → ℕ → StorageRow
storage_row M s = record {
  storage = s;
  replicas = length (blocks_on M.holdings s);
  bytes = sum_by (len_of M.holdings.blocks) (blocks_on M.holdings s);
  remaining = remaining M.cluster s;
}

-- the storages of a node
abbrev pub storage_rows : State → ℕ → List StorageRow
storage_rows M n = map (storage_row M) (filter (has_storage M.cluster n) (keys M.cluster.storages))

-- retired if it can be removed; else draining or live
abbrev pub state_of : State → ℕ → NodeState
state_of M n = if is_retired M.cluster M.holdings n then Retired else if drains M.cluster n then Draining else Live

-- a node with its storages
abbrev pub node_row : State → ℕ → NodeRow
node_row M n = record {
  node = n;
  rack = unwrap_or (get M.cluster.nodes n) 0;
  state = state_of M n;
  storages = storage_rows M n;
}
