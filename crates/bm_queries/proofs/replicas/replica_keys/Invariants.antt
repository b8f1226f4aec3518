use Rattle.std.proofs.Common.{◌≡◌, map, take}
use Rattle.bm_parts.specs.QueryLaws.{replica_key}
use Rattle.bm_queries.proofs.replicas.replica_keys.Given as goal

abbrev pub invariant-loop-replica : goal.invariant-loop-replica
invariant-loop-replica l = l.keys.items ≡ map replica_key (take l.replica-index l.replicas)
