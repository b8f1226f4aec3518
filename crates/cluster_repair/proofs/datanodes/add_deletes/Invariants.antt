use Rattle.std.specs.Prelude.{◌≡◌, ◌++◌, take}
use Rattle.cluster_repair.proofs.datanodes.add_deletes.Given as goal

abbrev pub invariant-loop-delete : goal.invariant-loop-delete
invariant-loop-delete l = l.deletes.items ≡ l.fn.deletes.items ++ take l.delete-index l.new
