use Rattle.fsck_import.specs.CallsFor.{add}
use Rattle.fsck_import.proofs.WriteLemmas.{adds_more}
use Rattle.fsck_import.proofs.line_writer.write_adds.Goals as goal

pub loop-index-preserved : goal.loop-index-preserved
loop-index-preserved g c = adds_more add c.args.cluster.now.blocks c.loop-index.index _ _ _ c.loop-index.invariant c.in_ok-write_add.ensures.written
