use Rattle.bm_parts.proofs.OneShard.{one_shard_is_enough}
use Rattle.bm_parts.proofs.events.one_shard_is_enough.Goals as goal

pub returns : goal.returns
returns c = one_shard_is_enough
