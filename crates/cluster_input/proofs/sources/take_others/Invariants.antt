use Rattle.cluster_report.specs.Sessions.{IsInStep}
use Rattle.cluster_input.proofs.sources.take_others.Given as goal

abbrev pub invariant-loop-path : goal.invariant-loop-path
invariant-loop-path g l = IsInStep l.loaded.session
