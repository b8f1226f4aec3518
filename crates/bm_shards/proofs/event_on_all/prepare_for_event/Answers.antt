use Rattle.std.proofs.Common.{◌∙◌, ap, subst, sym}
use Rattle.std.specs.List.{All, AllZip}
use Rattle.bm_shard.specs.ShardView.{IsReadyFor}
use Rattle.bm_shards.specs.ShardWork.{IsSame, IsPrepared, CanCommit}
use Rattle.bm_shards.proofs.ShardLists.{all_ready}
use Rattle.bm_shards.proofs.GatheredAnswers.{on_ok, prepared_same, prepared_refused}
use Rattle.bm_shards.proofs.SameShards.{all_same, still_taken}
use Rattle.bm_shards.proofs.event_on_all.prepare_for_event.Goals as goal

pub returns-in_err-preparing-clause-same : goal.returns-in_err-preparing-clause-same
returns-in_err-preparing-clause-same g c = all_same _

pub returns-in-Ok-clause-same : goal.returns-in-Ok-clause-same
returns-in-Ok-clause-same g c =
    let P = IsPrepared (IsReadyFor c.args.event.now) in
    let each = still_taken P _ _ _ (ap (λ v. v.items) c.replace-items.ensures.value) c.prepare_all-made.ensures.each in
    subst (AllZip IsSame c.args.shards.now.items) (sym c.gather_prepared.ensures.shards) (prepared_same (IsReadyFor c.args.event.now) _ _ each)

pub returns-in-Ok-clause-ready : goal.returns-in-Ok-clause-ready
returns-in-Ok-clause-ready g c =
    let P = IsPrepared (IsReadyFor c.args.event.now) in
    let each = still_taken P _ _ _ (ap (λ v. v.items) c.replace-items.ensures.value) c.prepare_all-made.ensures.each in
    on_ok _ _
    (subst (All (λ s. CanCommit c.args.topology.now.cluster c.args.event.now s.1)) (sym c.gather_prepared.ensures.shards)
    (all_ready c.args.topology.now.cluster c.args.event.now _ _ each c.requires.up_to_date (sym c.gather_prepared.ensures.outcome ∙ c.in-Ok.is)))

pub returns-in-Err-clause-same : goal.returns-in-Err-clause-same
returns-in-Err-clause-same g c =
    let P = IsPrepared (IsReadyFor c.args.event.now) in
    let each = still_taken P _ _ _ (ap (λ v. v.items) c.replace-items.ensures.value) c.prepare_all-made.ensures.each in
    subst (AllZip IsSame c.args.shards.now.items) (sym c.gather_prepared.ensures.shards) (prepared_same (IsReadyFor c.args.event.now) _ _ each)

pub returns-in-Err-clause-refused : goal.returns-in-Err-clause-refused
returns-in-Err-clause-refused g c =
    prepared_refused (IsReadyFor c.args.event.now) _ _ _ c.prepare_all-made.ensures.each (sym c.gather_prepared.ensures.outcome ∙ c.in-Err.is)
