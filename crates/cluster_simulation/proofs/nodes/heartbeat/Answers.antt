use Rattle.cluster_simulation.specs.Nodes.{free_at}
use Rattle.cluster_simulation.proofs.Storages.{one_more, free_of, free_is}
use Rattle.cluster_simulation.proofs.nodes.heartbeat.Goals as goal

pub loop-place-preserved : goal.loop-place-preserved
loop-place-preserved c =
    one_more (free_at c.args.manager.now c.args.shape c.args.capacity c.args.node) c.loop-place.place _ _ (free_of c.storage_at.result c.in_ok-remaining.remaining)
    c.in_ok-push.ensures.items c.loop-place.invariant
    (free_is c.args.manager.now c.args.shape c.args.capacity c.args.node c.loop-place.place c.storage_at.result c.in_ok-remaining.remaining c.storage_at.ensures.storage c.in_ok-remaining.ensures)
