use Rattle.std.proofs.Common.{◌∙◌}
use Rattle.bm_base.specs.Machine.Queries.{all_replicas}
use Rattle.bm_queries.proofs.FoundReplicas.{all_passing}
use Rattle.bm_shards.proofs.all_shards.AllShards.replicas.Goals as goal

pub returns-clause-replicas : goal.returns-clause-replicas
unfolding all_replicas
returns-clause-replicas c = c.from_vec.ensures ∙ c.in_ok-list_replicas.ensures.replicas ∙ all_passing c.args.self.now.holdings.replicas
