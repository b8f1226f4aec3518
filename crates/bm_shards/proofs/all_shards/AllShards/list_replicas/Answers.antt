use Rattle.std.proofs.Common.{rules}
use Rattle.std.proofs.lemmas.List.Sorted.{answers_always}
use Rattle.bm_parts.specs.QueryLaws.{replica_key}
use Rattle.bm_queries.specs.ListedElements.{wants}
use Rattle.bm_shards.proofs.Questions.{sorted_replicas}
use Rattle.bm_shards.proofs.all_shards.AllShards.list_replicas.Goals as goal

pub returns-clause-replicas : goal.returns-clause-replicas
returns-clause-replicas c =
    sorted_replicas c.self.inside.shards.items _ _ _ c.self.invariant c.deref-one-items.ensures.value c.loop-one-test.false c.self.view_is (wants c.args.wanted) _ _ c.loop-one.invariant c.sort_by_key.ensures.permutation
    (c.in_ok-sort_by_key.ensures.sorted replica_key (answers_always _ _ _ (λ f a r g h. search rules)))
