use Rattle.std.proofs.Common.{◌∙◌, sym}
use Rattle.bm_shards.proofs.Questions.{own_check, no_check}
use Rattle.bm_shards.proofs.all_shards.AllShards.check.Goals as goal

pub returns-in-Some : goal.returns-in-Some
returns-in-Some c =
    c.check.ensures
    ∙ own_check c.in-Some.id c.as_slice.result.now c.self.inside.shards.items _ c.args.self.now c.own_shard.ensures.own c.as_slice.ensures.value c.self.view_is c.args.event.now (sym c.block_of.ensures ∙ c.in-Some.is)

pub returns-in-None : goal.returns-in-None
returns-in-None c = no_check c.args.self.now.holdings c.args.event.now (sym c.block_of.ensures ∙ c.in-None.is)
