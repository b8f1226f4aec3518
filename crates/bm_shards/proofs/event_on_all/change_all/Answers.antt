use Rattle.std.proofs.Common.{◌∙◌, ap}
use Rattle.bm_base.specs.Words.{change_holdings, done}
use Rattle.bm_shards.specs.Whole.{held_by}
use Rattle.bm_shards.proofs.SameShards.{all_same_again, still_shards, same_held, same_took, same_up_to_date}
use Rattle.bm_shards.proofs.event_on_all.change_all.Goals as goal

pub commit_and_gather-requires-clause-shards : goal.commit_and_gather-requires-clause-shards
commit_and_gather-requires-clause-shards g c = still_shards _ _ c.prepare_for_event.ensures.same c.requires.shards

pub returns-in-Ok-clause-done : goal.returns-in-Ok-clause-done
returns-in-Ok-clause-done g c = c.commit_and_gather.ensures.done ∙ ap (λ H. done H (held_by c.commit_and_gather.new.shards.items)) (same_held _ _ c.prepare_for_event.ensures.same)

pub returns-in-Ok-clause-changed : goal.returns-in-Ok-clause-changed
returns-in-Ok-clause-changed g c = c.commit_and_gather.ensures.changed ∙ ap (λ H. change_holdings c.args.topology.now.cluster H c.args.event.now) (same_held _ _ c.prepare_for_event.ensures.same)

pub returns-in-Ok-clause-rounds : goal.returns-in-Ok-clause-rounds
returns-in-Ok-clause-rounds g c round pend took = c.commit_and_gather.ensures.rounds round pend (same_took round pend _ _ c.prepare_for_event.ensures.same took)

pub returns-in-Err-clause-shards : goal.returns-in-Err-clause-shards
returns-in-Err-clause-shards g c = still_shards _ _ (all_same_again _ _ _ c.prepare_for_event.ensures.same c.abort_all.ensures.each) c.requires.shards

pub returns-in-Err-clause-rounds : goal.returns-in-Err-clause-rounds
returns-in-Err-clause-rounds g c round pend took = same_took round pend _ _ (all_same_again _ _ _ c.prepare_for_event.ensures.same c.abort_all.ensures.each) took

pub returns-in-Err-clause-unchanged : goal.returns-in-Err-clause-unchanged
returns-in-Err-clause-unchanged g c = same_held _ _ (all_same_again _ _ _ c.prepare_for_event.ensures.same c.abort_all.ensures.each)

pub returns-in-Err-clause-after_refusal : goal.returns-in-Err-clause-after_refusal
returns-in-Err-clause-after_refusal g c = same_up_to_date c.args.topology.now.cluster _ _ (all_same_again _ _ _ c.prepare_for_event.ensures.same c.abort_all.ensures.each) c.requires.up_to_date
