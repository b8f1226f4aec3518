use Rattle.std.proofs.Common.{arith, subst, sym, ◌∙◌}
use Rattle.std.proofs.lemmas.Grind.{common_steps}
use Rattle.bm_topo.specs.Keys.{HasSmallKeys}
use Rattle.bm_topo.proofs.Keys.{small_keys_insert}
use Rattle.bm_topo.proofs.tables.add_storages.Goals as goal

pub loop-storage-preserved : goal.loop-storage-preserved
loop-storage-preserved c = record {
  storages = grind (arith, common_steps);
  spare = grind (arith, common_steps);
  small = λ h. subst (λ m. HasSmallKeys m) (sym c.insert_reserved.ensures.after) (small_keys_insert c.loop-storage.storages.map _ _ (omega arith) (c.loop-storage.invariant.small h));
  no_growth = c.insert_reserved.ensures.no_growth ∙ c.loop-storage.invariant.no_growth;
}
