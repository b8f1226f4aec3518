use Rattle.std.proofs.Common.{is_some, sym, ap, ◌∙◌}
use Rattle.std.specs.Prelude.{option_and_then}
use Rattle.bm_base.specs.Machine.State.{replica_at}
use Rattle.bm_arena.specs.Contents.{marks_at}
use Rattle.bm_arena.proofs.HeldReplicas.{get-replicas_of}
use Rattle.bm_shard.proofs.arrived_transfers.has_replica.Goals as goal

pub returns-in-Some : goal.returns-in-Some
returns-in-Some c =
    let a = c.args.arena.now in
    let s = c.args.storage in
    c.is_some.ensures ∙ ap is_some (c.marks.ensures ∙ ap (option_and_then (λ slot. marks_at a slot s)) c.in-Some.ensures ∙ sym (get-replicas_of a (replica_at c.args.block s)))

pub returns-in-None : goal.returns-in-None
returns-in-None c =
    let a = c.args.arena.now in
    let s = c.args.storage in
    ap is_some (ap (option_and_then (λ slot. marks_at a slot s)) c.in-None.ensures ∙ sym (get-replicas_of a (replica_at c.args.block s)))
