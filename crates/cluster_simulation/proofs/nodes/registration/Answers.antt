use Rattle.cluster_simulation.specs.Nodes.{storage_at}
use Rattle.cluster_simulation.proofs.Storages.{one_more}
use Rattle.cluster_simulation.proofs.nodes.registration.Goals as goal

pub loop-place-preserved : goal.loop-place-preserved
loop-place-preserved c =
    one_more (storage_at c.args.shape c.args.node) c.loop-place.place _ _ c.storage_at.result c.in_ok-push.ensures.items c.loop-place.invariant c.storage_at.ensures.storage
