use Rattle.std.proofs.Common.{subst, sym}
use Rattle.bm_shards.specs.Whole.{Whole, AreUpToDate, HaveTaken, IsUpToDate, HasTaken}
use Rattle.bm_shards.proofs.all_shards.AllShards.round.Goals as goal

pub take_round_in_all-requires-clause-up_to_date : goal.take_round_in_all-requires-clause-up_to_date
unfolding IsUpToDate
take_round_in_all-requires-clause-up_to_date g c = subst (λ (F : Whole). AreUpToDate c.args.topology.now.cluster F.shards) (sym c.self.view_is) c.requires.up_to_date

pub take_round_in_all-requires-clause-rounds : goal.take_round_in_all-requires-clause-rounds
unfolding HasTaken
take_round_in_all-requires-clause-rounds g c = subst (λ (F : Whole). HaveTaken c.args.last c.args.config.now.pend F.shards) (sym c.self.view_is) c.requires.rounds
