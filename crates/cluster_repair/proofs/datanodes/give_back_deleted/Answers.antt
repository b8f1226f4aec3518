use Rattle.std.proofs.Common.{◌∙◌}
use Rattle.cluster_report.specs.Catalogues.{len_in}
use Rattle.cluster_repair.specs.LinkModel.{free_on}
use Rattle.cluster_repair.proofs.NumberLemmas.{freed_more, freed_all}
use Rattle.cluster_repair.proofs.datanodes.give_back_deleted.Goals as goal

pub loop-delete-preserved : goal.loop-delete-preserved
loop-delete-preserved c = record {
  free = λ s.
      freed_more (len_in c.args.blocks.now) c.args.deletes.now c.loop-delete.delete-index c.delete-item.result s c.args.free.now c.loop-delete.free c.release.new.self c.len_of.result
      c.loop-delete-test.true c.delete-item.is c.len_of.ensures (c.loop-delete.invariant.free s) (c.in_ok-release.ensures.free s);
  nodes = c.release.ensures.nodes ∙ c.loop-delete.invariant.nodes;
  storages = c.release.ensures.storages ∙ c.loop-delete.invariant.storages;
}

pub returns-clause-free : goal.returns-clause-free
returns-clause-free c s =
    freed_all (len_in c.args.blocks.now) c.args.deletes.now c.loop-delete.delete-index s (free_on c.args.free.now s) (free_on c.loop-delete.free s) c.loop-delete-test.false (c.loop-delete.invariant.free s)
