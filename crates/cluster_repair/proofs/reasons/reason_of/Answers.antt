use Rattle.bm_base.specs.Words.{all_replicas}
use Rattle.cluster_repair.proofs.ReasonLemmas.{blocks_ascend}
use Rattle.cluster_repair.proofs.reasons.reason_of.Goals as goal

pub replicas_of-requires : goal.replicas_of-requires
replicas_of-requires c =
    let M = c.args.session.now.manager in
    blocks_ascend c.args.replicas.now (all_replicas M.holdings) c.requires (c.lists_ascend.ensures M.cluster M.holdings).replicas
