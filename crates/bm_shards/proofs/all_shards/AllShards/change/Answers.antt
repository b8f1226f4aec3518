use Rattle.std.proofs.Common.{subst, sym}
use Rattle.bm_parts.proofs.OneShard.{nothing_done}
use Rattle.bm_shards.specs.Whole.{Whole, AreUpToDate, HaveTaken, IsUpToDate, HasTaken}
use Rattle.bm_shards.proofs.Heartbeats.{heartbeat_up_to_date, holdings_after_heartbeat}
use Rattle.bm_shards.proofs.all_shards.AllShards.change.Goals as goal

pub returns-in-Heartbeat-clause-done : goal.returns-in-Heartbeat-clause-done
returns-in-Heartbeat-clause-done g c = sym (nothing_done c.args.self.now.holdings)

pub returns-in-Heartbeat-clause-changed : goal.returns-in-Heartbeat-clause-changed
returns-in-Heartbeat-clause-changed g c = holdings_after_heartbeat c.args.topology.now.cluster c.args.self.now.holdings c.args.event.now c.in-Heartbeat.node c.in-Heartbeat.remaining c.in-Heartbeat.is

pub returns-in-Heartbeat-clause-up_to_date : goal.returns-in-Heartbeat-clause-up_to_date
returns-in-Heartbeat-clause-up_to_date g c =
    heartbeat_up_to_date c.args.topology.now.cluster c.args.event.now c.in-Heartbeat.node c.in-Heartbeat.remaining c.args.self.now c.in-Heartbeat.is c.show_invariant.ensures c.requires.cluster c.requires.up_to_date

pub change_all-requires-clause-up_to_date : goal.change_all-requires-clause-up_to_date
unfolding IsUpToDate
change_all-requires-clause-up_to_date g c = subst (λ (F : Whole). AreUpToDate c.args.topology.now.cluster F.shards) (sym c.self.view_is) c.requires.up_to_date

pub returns-in-Some-clause-rounds : goal.returns-in-Some-clause-rounds
unfolding HasTaken
returns-in-Some-clause-rounds g c round pend took = c.change_own.ensures.rounds round pend (subst (λ (F : Whole). HaveTaken round pend F.shards) (sym c.self.view_is) took)

pub returns-in-None-clause-rounds : goal.returns-in-None-clause-rounds
unfolding HasTaken
returns-in-None-clause-rounds g c round pend took = c.change_all.ensures.rounds round pend (subst (λ (F : Whole). HaveTaken round pend F.shards) (sym c.self.view_is) took)
