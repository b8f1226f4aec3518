use Rattle.std.proofs.Common.{ap, ◌∙◌, length, not}
use Rattle.std.specs.Prelude.{◌==◌}
use Rattle.std.specs.Option.{unwrap_or}
use Rattle.bm_base.specs.declared.replica.ReplicaId.{ReplicaId}
use Rattle.bm_levels.proofs.GroupedReplicas.{place_or_length}
use Rattle.bm_levels.proofs.listed_replicas.count_of_block.Goals as goal

pub returns : goal.returns
returns c =
    c.unwrap_or.ensures
    ∙ ap (λ o. unwrap_or o (length c.args.listed.now)) c.index_of_other_block.ensures
    ∙ place_or_length (λ (q : ReplicaId). not (q.block == c.args.block)) c.args.listed.now
