use Rattle.bm_shards.proofs.SameShards.{same_again, unused_again}
use Rattle.bm_shards.proofs.abort.abort_shard.Goals as goal

pub returns-clause-same : goal.returns-clause-same
returns-clause-same c = same_again _ _ _ c.abort.ensures.same c.round_abort.ensures.same

pub returns-clause-given_up : goal.returns-clause-given_up
returns-clause-given_up c = record { unused = unused_again _ _ c.round_abort.ensures.same c.round_abort.ensures.entries c.abort.ensures.unused; freed = c.round_abort.ensures.freed }
