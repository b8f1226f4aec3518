use Rattle.std.proofs.Common.{ap, arith}
use Rattle.fsck_import.specs.CallsFor.{corrupt}
use Rattle.cluster_input.proofs.MakeLemmas.{called_at}
use Rattle.cluster_input.proofs.calls.make_corrupt.Goals as goal

pub loop-bad-preserved : goal.loop-bad-preserved
loop-bad-preserved g c = record {
  made = called_at corrupt c.args.cluster.now.bad c.as_slice-bad-items.result.now c.loop-bad.bad-index c.bad-item.result _ _ _ _
      c.as_slice-bad-items.ensures (omega (arith, c.loop-bad-test.true)) (ap corrupt c.bad-item.is)
      c.loop-bad.invariant.made c.in_ok-make_call.ensures.made;
  in_step = c.in_ok-make_call.ensures.in_step;
}
