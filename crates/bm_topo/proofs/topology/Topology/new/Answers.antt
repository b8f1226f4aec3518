use Rattle.std.proofs.Common.{ap, arith}
use Rattle.bm_base.specs.Maps.Map.{len}
use Rattle.bm_base.specs.declared.storage.StorageInfo.{StorageInfo}
use Rattle.bm_topo.proofs.SpotTable.{none_set}
use Rattle.bm_topo.proofs.ByNode.{none_known}
use Rattle.bm_topo.proofs.SoundTables.{sound-empty, len-empty}
use Rattle.bm_topo.proofs.topology.Topology.new.Goals as goal

pub invariant_of-result : goal.invariant_of-result
invariant_of-result c =
    let none = ap len c.new-4.ensures.empty in
    let zero = len-empty StorageInfo in
    let spare = c.new-4.ensures.spare in (
      sound-empty _ _ _ _ _ c.new.ensures.empty c.new-3.ensures.empty c.new-2.ensures.empty c.new-4.ensures.empty c.requires,
      none_set _ c.new-6.result.items,
      none_known _ _ c.new-4.ensures.empty c.new-7.ensures.items,
      record { spots = omega (arith, none, zero, spare); by_node = omega (arith, none, zero, spare) },
    )
