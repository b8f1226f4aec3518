use Rattle.std.proofs.Common.{Some, subst, sym, ap, ◌∙◌}
use Rattle.bm_base.specs.Machine.State.{replica_at}
use Rattle.bm_arena.specs.Contents.{Contents}
use Rattle.bm_arena.specs.HeldMaps.{replicas_of}
use Rattle.bm_report.specs.DuringReport.{behind, KeepsRest}
use Rattle.bm_report.proofs.Maps.{get-here, insert-same}
use Rattle.bm_report.proofs.Steps.{known-frame, known-behind, known-replicas, set-replicas, set-frame}
use Rattle.bm_report.proofs.reported_block.move_known.Goals as goal

pub returns-then-is_same-clause-replicas : goal.returns-then-is_same-clause-replicas
returns-then-is_same-clause-replicas c =
    known-replicas c.args.arena.now c.move_front.new.self c.args.storage c.args.named.now.id c.args.named.now.slot c.args.was c.show_invariant.ensures c.requires.here c.requires.was
    c.move_front.ensures.others c.move_front.ensures.blocks c.move_front.ensures.list
    ∙ sym (insert-same (replicas_of c.args.arena.now) (replica_at c.args.named.now.id c.args.storage) c.args.marks
    (get-here c.args.arena.now c.args.named.now.id c.args.named.now.slot c.args.storage c.requires.here ∙ c.requires.was ∙ sym (ap Some (c.is_same.ensures.same c.if-is_same.true))))

pub returns-then-is_same-clause-behind : goal.returns-then-is_same-clause-behind
returns-then-is_same-clause-behind c =
    known-behind c.args.arena.now c.move_front.new.self c.args.storage c.args.named.now.id c.args.named.now.slot c.args.was c.show_invariant.ensures c.requires.here c.requires.was
    c.move_front.ensures.others c.move_front.ensures.blocks c.move_front.ensures.list

pub returns-then-is_same-clause-frame : goal.returns-then-is_same-clause-frame
returns-then-is_same-clause-frame c =
    known-frame c.args.arena.now c.move_front.new.self c.args.storage c.args.named.now.id c.args.named.now.slot c.args.was c.show_invariant.ensures c.requires.here c.requires.was
    c.move_front.ensures.others c.move_front.ensures.blocks c.move_front.ensures.list

pub returns-clause-replicas : goal.returns-clause-replicas
returns-clause-replicas c =
    ap replicas_of c.set_marks.ensures.after
    ∙ set-replicas c.args.arena.now c.move_front.new.self c.args.storage c.args.named.now.id c.args.named.now.slot c.args.was c.show_invariant.ensures c.requires.here c.requires.was
    c.move_front.ensures.others c.move_front.ensures.blocks c.move_front.ensures.list c.args.marks c.move_front.ensures.lawful

pub returns-clause-behind : goal.returns-clause-behind
returns-clause-behind c =
    ap (λ a. behind a c.args.storage) c.set_marks.ensures.after
    ∙ known-behind c.args.arena.now c.move_front.new.self c.args.storage c.args.named.now.id c.args.named.now.slot c.args.was c.show_invariant.ensures c.requires.here c.requires.was
    c.move_front.ensures.others c.move_front.ensures.blocks c.move_front.ensures.list

pub returns-clause-frame : goal.returns-clause-frame
returns-clause-frame c =
    let P : Contents → Type 0 = λ a. KeepsRest c.args.storage c.args.arena.now a in
    subst P (sym c.set_marks.ensures.after)
    (set-frame c.args.arena.now c.move_front.new.self c.args.storage c.args.named.now.id c.args.named.now.slot c.args.was c.show_invariant.ensures c.requires.here c.requires.was
    c.move_front.ensures.others c.move_front.ensures.blocks c.move_front.ensures.list c.args.marks c.move_front.ensures.lawful)
