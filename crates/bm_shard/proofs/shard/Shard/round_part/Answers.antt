use Rattle.std.proofs.Common.{◌∙◌}
use Rattle.std.proofs.lemmas.Result.{IfOk-weaker}
use Rattle.bm_parts.proofs.Filters.{filter_all}
use Rattle.bm_shard.specs.UpToDate.{next_part}
use Rattle.bm_shard.proofs.shard.Shard.round_part.Goals as goal

pub returns-clause-part : goal.returns-clause-part
returns-clause-part c =
    let p = next_part c.args.topology.now.cluster c.args.self.now in
    IfOk-weaker c.round_part_before.result _ _ (λ r is. is ∙ (λ j. record p { wishes = filter_all p.wishes j })) c.round_part_before.ensures.part
