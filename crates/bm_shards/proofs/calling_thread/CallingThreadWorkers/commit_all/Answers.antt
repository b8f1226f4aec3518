use Rattle.bm_shards.proofs.calling_thread.CallingThreadWorkers.commit_all.Goals as goal

pub run_alone-requires-clause-accepts : goal.run_alone-requires-clause-accepts
run_alone-requires-clause-accepts c k d lt = (c.requires.cluster, (c.requires.every, (c.requires.multi, c.requires.shards k d lt)))
