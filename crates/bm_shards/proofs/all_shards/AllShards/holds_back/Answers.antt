use Rattle.std.proofs.Common.{◌∙◌, ap}
use Rattle.std.specs.List.{list_any}
use Rattle.bm_parts.specs.QueryLaws.{holds_back}
use Rattle.bm_shards.specs.Whole.{Whole}
use Rattle.bm_shards.proofs.Questions.{some_shard}
use Rattle.bm_shards.proofs.all_shards.AllShards.holds_back.Goals as goal

pub returns : goal.returns
returns c =
    let C = c.args.topology.now.cluster in
    c.any_holds_back.ensures
    ∙ ap (list_any (λ s. holds_back C c.args.node s.1.holdings)) c.as_slice.ensures.value
    ∙ some_shard C c.args.node c.self.inside.shards.items c.self.invariant
    ∙ ap (λ (F : Whole). holds_back C c.args.node F.holdings) c.self.view_is
