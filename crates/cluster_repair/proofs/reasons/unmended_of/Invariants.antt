use Rattle.std.specs.Prelude.{take}
use Rattle.cluster_repair.specs.Rows.{AreFound}
use Rattle.cluster_repair.specs.Reasons.{HaveReasons}
use Rattle.cluster_repair.proofs.reasons.unmended_of.Given as goal

abbrev pub invariant-loop-number : goal.invariant-loop-number
invariant-loop-number l = record {
  found : AreFound l.session.manager (take l.number-index l.blocks) l.found.items;
  reasons : HaveReasons l.session.book l.session.manager.holdings l.free l.found.items;
}
