use Rattle.std.proofs.Common.{◌∙◌, ap}
use Rattle.std.specs.Prelude.{unwrap_or}
use Rattle.cluster_repair.proofs.NumberLemmas.{free_more, free_all}
use Rattle.cluster_repair.proofs.free_bytes.free_bytes_of.Goals as goal

pub loop-storage-preserved : goal.loop-storage-preserved
loop-storage-preserved c s =
    free_more c.args.topology.now.cluster c.args.storages.now c.loop-storage.storage-index c.storage-item.result c.storage.inside.0 s c.unwrap_or-remaining.result _ _
    c.loop-storage-test.true c.storage-item.is c.storage.view_is (c.unwrap_or-remaining.ensures ∙ ap (λ o. unwrap_or o 0) c.remaining.ensures) (c.loop-storage.invariant s) (c.in_ok-put.ensures s)

pub returns : goal.returns
returns c s = free_all c.args.topology.now.cluster c.args.storages.now c.loop-storage.storage-index s _ c.loop-storage-test.false (c.loop-storage.invariant s)
