use Rattle.std.proofs.Common.{◌≡◌, ◌≤◌, drop, length}
use Rattle.bm_base.specs.Maps.Map.{insert_all}
use Rattle.bm_maps.specs.Table.{capacity}
use Rattle.bm_topo.specs.NewStorages.{new_storages}
use Rattle.bm_topo.specs.Keys.{HasSmallKeys}
use Rattle.bm_topo.proofs.tables.add_storages.Given as goal

-- the rest takes the table to what all of them make of the first one; and there is capacity for it
abbrev pub invariant-loop-storage : goal.invariant-loop-storage
invariant-loop-storage l = record {
  storages : insert_all l.storages.map (new_storages l.node (drop l.storage-index l.its_own)) ≡ insert_all l.initial.storages.map (new_storages l.node l.its_own);
  spare : length (drop l.storage-index l.its_own) ≤ l.storages.spare;
  small : HasSmallKeys l.initial.storages.map → HasSmallKeys l.storages.map;
  no_growth : capacity l.storages ≡ capacity l.initial.storages;
}
