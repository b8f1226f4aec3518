use Rattle.cluster_report.specs.Sessions.{IsInStep}
use Rattle.laws_of_repairs.specs.Repairs.{Covers}
use Rattle.cluster_simulation.proofs.rounds.take_quiet_rounds.Given as goal

abbrev pub invariant-loop-round : goal.invariant-loop-round
invariant-loop-round g l = record {
  in_step : IsInStep l.simulation.cluster.session;
  covers : Covers l.simulation.cluster.session.manager l.simulation.watch.blocks.items;
}
