use Rattle.cluster_report.specs.Sessions.{IsInStep}
use Rattle.cluster_simulation.proofs.made_up_cluster.place_blocks.Given as goal

abbrev pub invariant-loop-number : goal.invariant-loop-number
invariant-loop-number g l = IsInStep l.cluster.session
