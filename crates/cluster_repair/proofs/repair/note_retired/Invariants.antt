use Rattle.std.specs.Prelude.{take}
use Rattle.cluster_repair.specs.Retirements.{AreAnswered}
use Rattle.cluster_repair.proofs.repair.note_retired.Given as goal

abbrev pub invariant-loop-node : goal.invariant-loop-node
invariant-loop-node l = AreAnswered l.manager (take l.node-index l.drained) l.rounds l.seconds l.fn.retired.items l.retired.items
