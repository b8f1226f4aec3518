use Rattle.std.proofs.Common.{[], ap, subst, sym, ◌∙◌, ◌≡◌, None}
use Rattle.bm_base.specs.declared.event.Done.{Done}
use Rattle.bm_base.specs.declared.event.Event.{Event}
use Rattle.bm_base.specs.Words.{Cluster, is_multi_rack, change_cluster, change_holdings, first_of, cluster_checks}
use Rattle.bm_parts.specs.Parts.{block_of, change_part}
use Rattle.bm_shard.specs.ShardView.{Seen, IsReadyFor}
use Rattle.bm_shard.specs.EventEffects.{HasChanged}
use Rattle.bm_shard.proofs.OwnEvents.{by_own, none_few}
use Rattle.bm_shard.proofs.shard.Shard.change.Goals as goal

-- the goal of an event
abbrev Changes : Cluster → Seen → Seen → Done → Event → Type 0
Changes C old new answer e = HasChanged C (change_cluster C e) old new (change_part C old.holdings old.part.index old.part.shards e) answer

abbrev ChangesAny : Cluster → Seen → Seen → Done → Event → Type 0
ChangesAny C old new answer e = HasChanged C (change_cluster C e) old new (change_holdings C old.holdings e) answer

registered : (c : goal.After-register) → Changes c.args.topology.now.cluster c.args.self.now c.register.new.self c.register.result c.args.event.now
unfolding change_cluster change_holdings
registered c =
    subst (λ e. Changes c.args.topology.now.cluster c.args.self.now c.register.new.self c.register.result e) (sym c.in-Register.is)
    (c.register.ensures.changed _ _ _ (subst (λ e. first_of (cluster_checks c.args.topology.now.cluster e) ≡ None) c.in-Register.is c.requires.cluster)
    (c.requires.multi ∙ ap (λ e. is_multi_rack (change_cluster c.args.topology.now.cluster e)) c.in-Register.is))

pub forget_node-requires-clause-multi : goal.forget_node-requires-clause-multi
unfolding change_cluster
forget_node-requires-clause-multi c = c.requires.multi ∙ ap (λ e. is_multi_rack (change_cluster c.args.topology.now.cluster e)) c.in-Dead.is

pub add_block-requires : goal.add_block-requires
unfolding IsReadyFor
add_block-requires c = record { entry = subst (λ e. IsReadyFor e c.args.self.now) c.in-AddBlock.is c.requires.ready }

pub receive-requires-clause-ready : goal.receive-requires-clause-ready
unfolding IsReadyFor
receive-requires-clause-ready c = subst (λ e. IsReadyFor e c.args.self.now) c.in-Received.is c.requires.ready

pub report-requires-clause-ready : goal.report-requires-clause-ready
unfolding IsReadyFor
report-requires-clause-ready c = (_, subst (λ e. IsReadyFor e c.args.self.now) c.in-FullReport.is c.requires.ready)

pub returns-in-Register-clause-changed : goal.returns-in-Register-clause-changed
returns-in-Register-clause-changed c = registered c

pub returns-in-Dead-clause-changed : goal.returns-in-Dead-clause-changed
unfolding change_cluster change_holdings
returns-in-Dead-clause-changed c = subst (λ e. Changes c.args.topology.now.cluster c.args.self.now c.forget_node.new.self c.forget_node.result e) (sym c.in-Dead.is) c.forget_node.ensures.changed

pub returns-in-StorageFailed-clause-changed : goal.returns-in-StorageFailed-clause-changed
unfolding change_cluster change_holdings
returns-in-StorageFailed-clause-changed c = subst (λ e. Changes c.args.topology.now.cluster c.args.self.now c.forget_storage.new.self c.forget_storage.result e) (sym c.in-StorageFailed.is) c.forget_storage.ensures.changed

pub returns-in-Heartbeat-clause-changed : goal.returns-in-Heartbeat-clause-changed
unfolding change_cluster change_holdings
returns-in-Heartbeat-clause-changed c =
    subst (λ e. Changes c.args.topology.now.cluster c.args.self.now c.note_heartbeat.new.self c.note_heartbeat.result e) (sym c.in-Heartbeat.is) (c.note_heartbeat.ensures.changed c.args.topology.now.cluster _)

pub returns-in-Drain-clause-changed : goal.returns-in-Drain-clause-changed
unfolding change_cluster change_holdings
returns-in-Drain-clause-changed c = subst (λ e. Changes c.args.topology.now.cluster c.args.self.now c.set_draining.new.self c.set_draining.result e) (sym c.in-Drain.is) c.set_draining.ensures.changed

pub returns-in-Undrain-clause-changed : goal.returns-in-Undrain-clause-changed
unfolding change_cluster change_holdings
returns-in-Undrain-clause-changed c = subst (λ e. Changes c.args.topology.now.cluster c.args.self.now c.set_draining-in-Undrain.new.self c.set_draining-in-Undrain.result e) (sym c.in-Undrain.is) c.set_draining-in-Undrain.ensures.changed

pub returns-in-AddBlock-clause-changed : goal.returns-in-AddBlock-clause-changed
unfolding change_cluster change_holdings
returns-in-AddBlock-clause-changed c =
    let on = ap block_of c.in-AddBlock.is in
    by_own c.args.topology.now.cluster c.args.self.now c.add_block.new.self c.add_block.result c.args.event.now c.in-AddBlock.id on c.requires.own
    (subst (λ e. ChangesAny c.args.topology.now.cluster c.args.self.now c.add_block.new.self c.add_block.result e) (sym c.in-AddBlock.is) c.add_block.ensures.changed)

pub returns-in-DeleteBlock-clause-changed : goal.returns-in-DeleteBlock-clause-changed
unfolding change_cluster change_holdings
returns-in-DeleteBlock-clause-changed c =
    let on = ap block_of c.in-DeleteBlock.is in
    by_own c.args.topology.now.cluster c.args.self.now c.delete_block.new.self c.delete_block.result c.args.event.now c.in-DeleteBlock.id on c.requires.own
    (subst (λ e. ChangesAny c.args.topology.now.cluster c.args.self.now c.delete_block.new.self c.delete_block.result e) (sym c.in-DeleteBlock.is) c.delete_block.ensures.changed)

pub returns-in-SetReplication-clause-changed : goal.returns-in-SetReplication-clause-changed
unfolding change_cluster change_holdings
returns-in-SetReplication-clause-changed c =
    let on = ap block_of c.in-SetReplication.is in
    by_own c.args.topology.now.cluster c.args.self.now c.set_replication.new.self c.set_replication.result c.args.event.now c.in-SetReplication.id on c.requires.own
    (subst (λ e. ChangesAny c.args.topology.now.cluster c.args.self.now c.set_replication.new.self c.set_replication.result e) (sym c.in-SetReplication.is) c.set_replication.ensures.changed)

pub returns-in-Restamp-clause-changed : goal.returns-in-Restamp-clause-changed
unfolding change_cluster change_holdings
returns-in-Restamp-clause-changed c =
    let on = ap block_of c.in-Restamp.is in
    by_own c.args.topology.now.cluster c.args.self.now c.restamp.new.self c.restamp.result c.args.event.now c.in-Restamp.id on c.requires.own
    (subst (λ e. ChangesAny c.args.topology.now.cluster c.args.self.now c.restamp.new.self c.restamp.result e) (sym c.in-Restamp.is) c.restamp.ensures.changed)

pub returns-in-Received-clause-changed : goal.returns-in-Received-clause-changed
unfolding change_cluster change_holdings
returns-in-Received-clause-changed c =
    let on = ap block_of c.in-Received.is in
    by_own c.args.topology.now.cluster c.args.self.now c.receive.new.self c.receive.result c.args.event.now c.in-Received.id on c.requires.own
    (subst (λ e. ChangesAny c.args.topology.now.cluster c.args.self.now c.receive.new.self c.receive.result e) (sym c.in-Received.is) c.receive.ensures.changed)

pub returns-in-Deleted-clause-changed : goal.returns-in-Deleted-clause-changed
unfolding change_cluster change_holdings
returns-in-Deleted-clause-changed c =
    let on = ap block_of c.in-Deleted.is in
    by_own c.args.topology.now.cluster c.args.self.now c.delete_replica.new.self c.delete_replica.result c.args.event.now c.in-Deleted.id on c.requires.own
    (subst (λ e. ChangesAny c.args.topology.now.cluster c.args.self.now c.delete_replica.new.self c.delete_replica.result e) (sym c.in-Deleted.is) c.delete_replica.ensures.changed)

pub returns-in-Corrupt-clause-changed : goal.returns-in-Corrupt-clause-changed
unfolding change_cluster change_holdings
returns-in-Corrupt-clause-changed c =
    let on = ap block_of c.in-Corrupt.is in
    by_own c.args.topology.now.cluster c.args.self.now c.make_bad.new.self c.make_bad.result c.args.event.now c.in-Corrupt.id on c.requires.own
    (subst (λ e. ChangesAny c.args.topology.now.cluster c.args.self.now c.make_bad.new.self c.make_bad.result e) (sym c.in-Corrupt.is) c.make_bad.ensures.changed)

pub returns-in-FullReport-clause-changed : goal.returns-in-FullReport-clause-changed
unfolding change_cluster change_holdings IsReadyFor
returns-in-FullReport-clause-changed c = subst (λ e. Changes c.args.topology.now.cluster c.args.self.now c.report.new.self c.report.result e) (sym c.in-FullReport.is) (c.report.ensures.changed _ (subst (λ e. IsReadyFor e c.args.self.now) c.in-FullReport.is c.requires.ready))

pub returns-in-Register-clause-few : goal.returns-in-Register-clause-few
unfolding change_cluster
returns-in-Register-clause-few c none =
    none_few c.args.self.now.holdings c.register.result
    (c.register.ensures.changed _ _ _ (subst (λ e. first_of (cluster_checks c.args.topology.now.cluster e) ≡ None) c.in-Register.is c.requires.cluster)
    (c.requires.multi ∙ ap (λ e. is_multi_rack (change_cluster c.args.topology.now.cluster e)) c.in-Register.is)).done

pub returns-in-Heartbeat-clause-few : goal.returns-in-Heartbeat-clause-few
returns-in-Heartbeat-clause-few c none = none_few c.args.self.now.holdings c.note_heartbeat.result (c.note_heartbeat.ensures.changed c.args.topology.now.cluster []).done
