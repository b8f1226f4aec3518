use Rattle.bm_shards.specs.Whole.{IsUpToDate, HasTaken}
use Rattle.bm_shards.proofs.NewShards.{new_shards, new_empty, new_up_to_date, new_took, shards_allowed}
use Rattle.bm_shards.proofs.all_shards.AllShards.new.Goals as goal

pub invariant_of-result : goal.invariant_of-result
invariant_of-result c =
    let allowed = shards_allowed c.args.config.now c.requires in
    new_shards c.args.config.now _ allowed.0 allowed.1 c.in_ok-shards.ensures.each c.in_ok-shards.ensures.len

pub returns-clause-empty : goal.returns-clause-empty
returns-clause-empty c = new_empty c.args.config.now 0 _ c.in_ok-shards.ensures.each

pub returns-clause-up_to_date : goal.returns-clause-up_to_date
unfolding IsUpToDate
returns-clause-up_to_date c = λ C. new_up_to_date c.args.config.now C 0 _ c.in_ok-shards.ensures.each

pub returns-clause-rounds : goal.returns-clause-rounds
unfolding HasTaken
returns-clause-rounds c = new_took c.args.config.now 0 _ c.in_ok-shards.ensures.each
