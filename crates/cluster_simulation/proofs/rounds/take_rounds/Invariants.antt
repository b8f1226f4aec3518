use Rattle.laws_of_repairs.specs.Repairs.{Covers}
use Rattle.cluster_simulation.proofs.rounds.take_rounds.Given as goal

abbrev pub invariant-loop-past : goal.invariant-loop-past
invariant-loop-past g l = Covers l.simulation.cluster.session.manager l.simulation.watch.blocks.items
