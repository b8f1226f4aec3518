use Rattle.std.proofs.Common.{drop}
use Rattle.bm_base.specs.Words.{entries}
use Rattle.bm_base.specs.Maps.Map.{get}
use Rattle.cluster_lost.specs.Passes.{IsPassWithin, IsPassed}
use Rattle.cluster_losses.proofs.block_tallies.tally_blocks.Given as goal

abbrev pub invariant-loop-replica : goal.invariant-loop-replica
invariant-loop-replica l = record {
  passed : IsPassed l.session.manager (get l.rows.map) l.count l.excess (drop l.replica-index (entries l.session.manager.holdings.replicas)) l.pass;
  within : IsPassWithin l.replica-index l.pass;
}
