use Rattle.std.proofs.Common.{arith, subst}
use Rattle.std.proofs.lemmas.Grind.{common_steps}
use Rattle.std.proofs.lemmas.List.Elements.{All-more}
use Rattle.bm_lines.specs.FittingNumbers.{FitsRemaining}
use Rattle.bm_lines.proofs.field_writer.push_remaining.Goals as goal

pub loop-free-preserved : goal.loop-free-preserved
loop-free-preserved c = record {
  text = grind (arith, common_steps);
  fits = All-more FitsRemaining c.in-Some.others.now c.loop-free.free-index _ (omega arith) c.loop-free.invariant.fits (subst FitsRemaining c.free-item.is c.in_ok-push_free_space-2.ensures.fits);
}
