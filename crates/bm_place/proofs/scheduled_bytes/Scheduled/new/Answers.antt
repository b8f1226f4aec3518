use Rattle.std.proofs.Common.{map, subst}
use Rattle.bm_base.specs.Machine.Transfers.{scheduled_to}
use Rattle.bm_place.specs.BestTargets.{AreBestInOrder}
use Rattle.bm_place.proofs.TableInvariant.{kept_made, of_cluster_made}
use Rattle.bm_place.proofs.scheduled_bytes.Scheduled.new.Goals as goal

pub invariant_of-result : goal.invariant_of-result
invariant_of-result c =
    record {
      kept =
          kept_made c.args.topology.now.cluster c.in_ok-rows.rows.map c.in_ok-best_targets.best_targets.items c.in_ok-rows.ensures
          (subst (λ es. AreBestInOrder (map (λ e. e.1) es) c.in_ok-best_targets.best_targets.items) c.entries.ensures c.in_ok-best_targets.ensures);
      of_cluster = of_cluster_made c.args.topology.now.cluster c.in_ok-rows.rows.map c.in_ok-rows.ensures;
    }

pub returns-clause-of_transfers : goal.returns-clause-of_transfers
unfolding scheduled_to
returns-clause-of_transfers c = c.in_ok-rows.ensures
