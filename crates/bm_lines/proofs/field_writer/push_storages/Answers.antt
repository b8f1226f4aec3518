use Rattle.std.proofs.Common.{ℕ, ◌<◌, ◌^◌, arith, subst}
use Rattle.std.proofs.lemmas.Grind.{common_steps}
use Rattle.std.proofs.lemmas.List.Elements.{All-more}
use Rattle.bm_lines.proofs.field_writer.push_storages.Goals as goal

pub loop-storage-preserved : goal.loop-storage-preserved
loop-storage-preserved c = record {
  text = grind (arith, common_steps);
  fits = All-more (λ (s : ℕ). s < 2 ^ 32) c.in-Some.others.now c.loop-storage.storage-index _ (omega arith) c.loop-storage.invariant.fits (subst (λ (s : ℕ). s < 2 ^ 32) c.storage-item.is c.in_ok-push_storage-2.ensures.fits);
}
