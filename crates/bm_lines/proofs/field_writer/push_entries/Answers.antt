use Rattle.std.proofs.Common.{arith, subst}
use Rattle.std.proofs.lemmas.Grind.{common_steps}
use Rattle.std.proofs.lemmas.List.Elements.{All-more}
use Rattle.bm_lines.specs.FittingNumbers.{FitsEntry}
use Rattle.bm_lines.proofs.field_writer.push_entries.Goals as goal

pub loop-entry-preserved : goal.loop-entry-preserved
loop-entry-preserved c = record {
  text = grind (arith, common_steps);
  fits = All-more FitsEntry c.in-Some.others.now c.loop-entry.entry-index _ (omega arith) c.loop-entry.invariant.fits (subst FitsEntry c.entry-item.is c.in_ok-push_entry-2.ensures.fits);
}
