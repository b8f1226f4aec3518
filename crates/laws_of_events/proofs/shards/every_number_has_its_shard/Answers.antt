use Rattle.bm_parts.proofs.Parts.{shard_below}
use Rattle.laws_of_events.proofs.shards.every_number_has_its_shard.Goals as goal

pub returns : goal.returns
returns c = shard_below
