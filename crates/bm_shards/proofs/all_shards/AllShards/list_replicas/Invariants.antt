use Rattle.std.proofs.Common.{◌≡◌, take}
use Rattle.std.specs.List.{flat_map}
use Rattle.bm_queries.specs.ListedElements.{wants, replicas_passing}
use Rattle.bm_shards.proofs.all_shards.AllShards.list_replicas.Given as goal

abbrev pub invariant-loop-one : goal.invariant-loop-one
invariant-loop-one l = l.all.items ≡ flat_map (λ s. replicas_passing (wants l.wanted) s.1.holdings.replicas) (take l.one-index l.one-items)
