use Rattle.std.proofs.Common.{◌∙◌, map, ap}
use Rattle.bm_base.specs.Machine.Queries.{replicas_where}
use Rattle.bm_parts.specs.QueryLaws.{replica_key}
use Rattle.bm_queries.specs.declared.replicas.ReplicaFilter.TheVariants.{Corrupt}
use Rattle.bm_queries.specs.ListedElements.{wants}
use Rattle.bm_queries.proofs.FoundReplicas.{ids_passing}
use Rattle.bm_shard.proofs.shard.Shard.corrupt.Goals as goal

pub returns-clause-corrupt : goal.returns-clause-corrupt
unfolding replicas_where
returns-clause-corrupt c =
    c.from_vec.ensures ∙ c.in_ok-replica_keys.ensures ∙ ap (map replica_key) (c.as_slice.ensures.value ∙ c.in_ok-all.ensures.replicas) ∙ ids_passing (wants Corrupt) c.args.self.now.holdings.replicas
