use Rattle.std.proofs.Common.{◌≡◌, None, subst}
use Rattle.bm_base.specs.Machine.Refusals.{first_of, cluster_checks}
use Rattle.bm_base.proofs.ClusterEvents.{drainable}
use Rattle.bm_topo.proofs.topology.Topology.commit.Goals as goal

pub drain-requires-clause-alive : goal.drain-requires-clause-alive
drain-requires-clause-alive c = drainable c.args.self.now.cluster c.in-Drain.node (subst (λ e. first_of (cluster_checks c.args.self.now.cluster e) ≡ None) c.in-Drain.is c.requires.accepted)
