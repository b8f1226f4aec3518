use Rattle.std.proofs.Common.{ap}
use Rattle.bm_shards.specs.RoundWork.{HasTakenRound}
use Rattle.bm_shards.proofs.SameShards.{all_same_again, still_taken}
use Rattle.bm_shards.proofs.RoundsTaken.{all_after_same}
use Rattle.bm_shards.proofs.round.take_round.Goals as goal

pub returns-in-Ok-clause-taken : goal.returns-in-Ok-clause-taken
returns-in-Ok-clause-taken g c =
    let R = HasTakenRound c.args.topology.now.cluster c.args.chosen.now in
    all_after_same c.args.topology.now.cluster c.args.chosen.now _ _ _ c.prepare_for_round.ensures.same
    (still_taken R _ _ _ (ap (λ v. v.items) c.replace-items.ensures.value) c.commit_round_all.ensures.each)

pub returns-in-Err-clause-same : goal.returns-in-Err-clause-same
returns-in-Err-clause-same g c = all_same_again _ _ _ c.prepare_for_round.ensures.same c.abort_all.ensures.each
