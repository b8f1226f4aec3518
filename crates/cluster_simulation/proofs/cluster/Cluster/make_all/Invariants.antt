use Rattle.std.proofs.Common.{◌≡◌, drop}
use Rattle.bm_base.specs.Words.{state_after}
use Rattle.cluster_report.specs.Sessions.{IsInStep}
use Rattle.cluster_simulation.proofs.cluster.Cluster.make_all.Given as goal

-- from here the calls that are left lead to where all of them lead
abbrev pub invariant-loop-call : goal.invariant-loop-call
invariant-loop-call g l = record {
  state : state_after l.fn.self.session.manager l.calls ≡ state_after l.self.session.manager (drop l.call-index l.calls);
  in_step : IsInStep l.self.session;
}
