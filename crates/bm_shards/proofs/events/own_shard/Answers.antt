use Rattle.std.specs.Prelude.{◌<◌, length}
use Rattle.std.proofs.Common.{arith}
use Rattle.bm_shards.proofs.OneOf.{item_there, has_shard, own_holdings, up_to_date_at}
use Rattle.bm_shards.proofs.events.own_shard.Goals as goal

pub returns-clause-own : goal.returns-clause-own
returns-clause-own c =
    let ss = c.args.shards.now in
    let within : c.index_of_shard.result < length ss = omega (arith, c.index_of_shard.ensures, has_shard c.args.id ss c.requires) in
    own_holdings c.args.id c.index_of_shard.result ss c.in-Some.one.now c.requires c.index_of_shard.ensures (item_there ss c.index_of_shard.result c.in-Some.one.now within c.in-Some.ensures.lookup.1)

pub returns-clause-up_to_date : goal.returns-clause-up_to_date
returns-clause-up_to_date c =
    let ss = c.args.shards.now in
    let within : c.index_of_shard.result < length ss = omega (arith, c.index_of_shard.ensures, has_shard c.args.id ss c.requires) in
    λ C up_to_date. up_to_date_at C ss c.index_of_shard.result c.in-Some.one.now up_to_date (item_there ss c.index_of_shard.result c.in-Some.one.now within c.in-Some.ensures.lookup.1)
