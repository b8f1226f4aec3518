use Rattle.std.specs.Prelude.{◌≡◌}
use Rattle.bm_base.specs.Machine.State.{State}
use Rattle.laws_of_repairs.specs.Repairs.{Covers}
use Rattle.cluster_repair.specs.declared.datanodes.DataNodes.{DataNodes}
use Rattle.cluster_repair.specs.History.{AreOf}
use Rattle.cluster_repair.specs.Rows.{AreInOrder, IsUnderWay}
use Rattle.cluster_repair.proofs.repair.Repair.take_rounds.Given as goal

abbrev pub invariant-loop-past : goal.invariant-loop-past
invariant-loop-past g l = record {
  few : l.self.rounds ≡ l.past;
  covers : Covers l.manager l.self.watch.blocks.items;
  drained : l.self.drained ≡ l.fn.self.drained;
  in_order : AreInOrder l.fn.self.rounds l.fn.self.rows.stride l.fn.self.rows.rows.items → AreInOrder l.self.rounds l.self.rows.stride l.self.rows.rows.items;
  under_way : (M : State) (d : DataNodes) → AreOf l.facts.topology.now.cluster l.facts.blocks.now l.facts.awaited M → IsUnderWay l.facts.ticks M d l.fn.manager l.fn.self → IsUnderWay l.facts.ticks M d l.manager l.self;
}
