use Rattle.fsck_import.specs.CallsFor.{add}
use Rattle.cluster_input.proofs.MakeLemmas.{adds_more}
use Rattle.cluster_input.proofs.calls.make_adds.Goals as goal

pub loop-index-preserved : goal.loop-index-preserved
loop-index-preserved g c = record {
  made = adds_more add c.args.cluster.now.blocks c.loop-index.index _ _ _ c.loop-index.invariant.made c.in_ok-make_add.ensures.made;
  in_step = c.in_ok-make_add.ensures.in_step;
}
