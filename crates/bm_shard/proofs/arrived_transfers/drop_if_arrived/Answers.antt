use Rattle.std.proofs.Common.{sym, ◌∙◌}
use Rattle.std.proofs.lemmas.Bool.{and_left, and_right}
use Rattle.bm_base.specs.Words.{contains_key, replica_at}
use Rattle.bm_arena.specs.HeldMaps.{replicas_of}
use Rattle.bm_shard.proofs.Arrivals.{dropped-one, dropped-none}
use Rattle.bm_shard.proofs.arrived_transfers.drop_if_arrived.Goals.{else-contains-via-then-contains+else-has_replica, else-contains-via-else-contains}
use Rattle.bm_shard.proofs.arrived_transfers.drop_if_arrived.Goals as goal

pub returns-then-has_replica-clause-map : goal.returns-then-has_replica-clause-map
returns-then-has_replica-clause-map c = c.remove.ensures.map ∙ dropped-one c.args.arena.now c.args.storage c.args.block c.args.pending.now.map (sym c.has_replica.ensures ∙ c.if-has_replica.true)

pub returns-else-contains-clause-map : goal.returns-else-contains-clause-map
returns-else-contains-clause-map c =
    let a = c.args.arena.now in
    let m = c.args.pending.now.map in
    let q = replica_at c.args.block c.args.storage in
    let none = dropped-none a c.args.storage c.args.block m in
    elim c.else-contains.branch [
      | else-contains-via-then-contains+else-has_replica w ↦ none (and_right (contains_key m q) (contains_key (replicas_of a) q) (sym w.has_replica.ensures ∙ w.if-has_replica.false))
      | else-contains-via-else-contains w ↦ none (and_left (contains_key m q) (contains_key (replicas_of a) q) (sym c.contains.ensures ∙ w.if-contains.false))
    ]
