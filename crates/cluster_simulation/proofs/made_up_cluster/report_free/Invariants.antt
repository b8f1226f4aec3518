use Rattle.cluster_report.specs.Sessions.{IsInStep}
use Rattle.cluster_simulation.proofs.made_up_cluster.report_free.Given as goal

abbrev pub invariant-loop-node : goal.invariant-loop-node
invariant-loop-node g l = IsInStep l.cluster.session
