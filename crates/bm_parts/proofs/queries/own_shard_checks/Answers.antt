use Rattle.bm_parts.proofs.OwnShard.{own_shard_checks}
use Rattle.bm_parts.proofs.queries.own_shard_checks.Goals as goal

pub returns : goal.returns
returns c = own_shard_checks
