use Rattle.std.proofs.Common.{ap, arith}
use Rattle.fsck_import.specs.CallsFor.{received}
use Rattle.cluster_input.proofs.MakeLemmas.{called_next}
use Rattle.cluster_input.proofs.calls.make_received.Goals as goal

pub loop-one-preserved : goal.loop-one-preserved
loop-one-preserved g c = record {
  made = called_next (received c.args.storage) c.args.held.now c.loop-one.one-index c.one-item.result _ _ _ _
      (omega (arith, c.loop-one-test.true)) (ap (received c.args.storage) c.one-item.is)
      c.loop-one.invariant.made c.in_ok-make_call.ensures.made;
  in_step = c.in_ok-make_call.ensures.in_step;
}
