use Rattle.std.proofs.lemmas.Result.{on_ok_weaker}
use Rattle.cluster_report.proofs.CatalogueLemmas.{lists_added, lists_deleted}
use Rattle.cluster_report.proofs.catalogue.Catalogue.take_event.Goals as goal

pub returns-in-AddBlock : goal.returns-in-AddBlock
returns-in-AddBlock c =
    on_ok_weaker c.put.result (λ put C H lists.
    lists_added c.args.self.now c.put.new.self C H c.args.event.now c.in-AddBlock.id c.in-AddBlock.stamp c.in-AddBlock.repl c.in-AddBlock.is put lists)
    c.put.ensures

pub returns-in-DeleteBlock : goal.returns-in-DeleteBlock
returns-in-DeleteBlock c =
    λ C H lists. lists_deleted c.args.self.now c.forget.new.self C H c.args.event.now c.in-DeleteBlock.id c.in-DeleteBlock.is c.forget.ensures lists
