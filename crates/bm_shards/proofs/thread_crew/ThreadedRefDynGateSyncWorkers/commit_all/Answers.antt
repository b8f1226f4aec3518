use Rattle.bm_shards.proofs.thread_crew.ThreadedRefDynGateSyncWorkers.commit_all.Goals as goal

pub run-requires-clause-accepts : goal.run-requires-clause-accepts
run-requires-clause-accepts g c _ _ k d lt = (c.requires.cluster, (c.requires.every, (c.requires.multi, c.requires.shards k d lt)))
