use Rattle.std.proofs.Common.{ap, subst, sym}
use Rattle.bm_shards.specs.Whole.{AreUpToDate, HaveTaken}
use Rattle.bm_shards.specs.ShardWork.{IsCommitted}
use Rattle.bm_shards.proofs.ShardLists.{all_few, up_to_64, now_shards, now_held, now_done, changed_up_to_date, took_again}
use Rattle.bm_shards.proofs.SameShards.{still_taken}
use Rattle.bm_shards.proofs.event_on_all.commit_and_gather.Goals as goal

pub gather_done-requires-clause-few : goal.gather_done-requires-clause-few
gather_done-requires-clause-few g c = all_few _ _ _ _ c.commit_all-made.ensures.each

pub gather_done-requires-clause-shards : goal.gather_done-requires-clause-shards
gather_done-requires-clause-shards g c =
    let P = IsCommitted c.args.topology.now.cluster c.args.event.now in
    let each = still_taken P _ _ _ (ap (λ v. v.items) c.replace-items.ensures.value) c.commit_all-made.ensures.each in
    up_to_64 _ _ _ _ each c.requires.shards

pub returns : goal.returns
returns g c =
    let P = IsCommitted c.args.topology.now.cluster c.args.event.now in
    let each = still_taken P _ _ _ (ap (λ v. v.items) c.replace-items.ensures.value) c.commit_all-made.ensures.each in
    record {
      done = now_done _ _ _ _ _ _ each c.gather_done.ensures.shards c.gather_done.ensures.done c.requires.shards;
      changed = now_held _ _ _ _ _ each c.gather_done.ensures.shards c.requires.shards;
      up_to_date = subst (AreUpToDate _) (sym c.gather_done.ensures.shards) (changed_up_to_date _ _ _ _ each);
      shards = now_shards _ _ _ _ _ each c.gather_done.ensures.shards c.requires.shards;
      rounds = λ round pend took. subst (HaveTaken round pend) (sym c.gather_done.ensures.shards) (took_again _ _ round pend _ _ each took);
    }
