use Rattle.std.specs.Prelude.{◌≡◌, ℕ, take}
use Rattle.std.specs.List.{fold}
use Rattle.cluster_report.specs.Catalogues.{len_in}
use Rattle.cluster_repair.specs.Reports.{free_after}
use Rattle.cluster_repair.specs.LinkModel.{free_on}
use Rattle.cluster_repair.proofs.datanodes.give_back_deleted.Given as goal

abbrev pub invariant-loop-delete : goal.invariant-loop-delete
invariant-loop-delete l = record {
  free : (s : ℕ) → free_on l.free s ≡ fold (free_after (len_in l.blocks) s) (free_on l.fn.free s) (take l.delete-index l.deletes);
  nodes : l.free.nodes ≡ l.fn.free.nodes;
  storages : l.free.storages ≡ l.fn.free.storages;
}
