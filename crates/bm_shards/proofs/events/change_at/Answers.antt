use Rattle.bm_shard.specs.UpToDate.{IsSameButCapacity}
use Rattle.bm_shards.specs.OneShard.{IsChanged}
use Rattle.bm_shards.proofs.OneOf.{item_there, made_ok, made_err}
use Rattle.bm_shards.proofs.events.change_at.Goals as goal

pub change_shard-requires-clause-up_to_date : goal.change_shard-requires-clause-up_to_date
change_shard-requires-clause-up_to_date c = c.requires.up_to_date c.in-Some.one.now (item_there _ _ _ c.requires.index c.in-Some.ensures.value)

pub returns-clause-changed : goal.returns-clause-changed
returns-clause-changed c =
    made_ok (λ d S T. IsChanged c.args.topology.now.cluster c.args.event.now S T d) c.change_shard.result c.args.index c.args.shards.now.items c.in-Some.one.now c.change_shard.new.shard
    (item_there _ _ _ c.requires.index c.in-Some.ensures.value) c.change_shard.ensures.changed

pub returns-clause-same : goal.returns-clause-same
returns-clause-same c =
    made_err IsSameButCapacity c.change_shard.result c.args.index c.args.shards.now.items c.in-Some.one.now c.change_shard.new.shard
    (item_there _ _ _ c.requires.index c.in-Some.ensures.value) c.change_shard.ensures.same
