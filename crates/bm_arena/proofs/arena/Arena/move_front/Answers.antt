use Rattle.std.proofs.Common.{ap, sym, subst, ◌∙◌}
use Rattle.bm_arena.specs.Contents.{Contents, list_of, KeepsOthers, IsLawful}
use Rattle.bm_arena.proofs.Laws.{head-lawful, list_of-moved_front, others-moved_front}
use Rattle.bm_arena.proofs.ListCalls.{move_front-sound, move_front-view, no_list, no_replica}
use Rattle.bm_arena.proofs.Lawfulness.{IsLawful-arena}
use Rattle.bm_arena.proofs.Bounds.{below-moved}
use Rattle.bm_arena.proofs.HeldReplicas.{replicas-moved, blocks-kept}
use Rattle.bm_arena.proofs.arena.Arena.move_front.Goals as goal

pub invariant_of-self : goal.invariant_of-self
invariant_of-self c =
    record {
      arena =
          move_front-sound c.self.inside.slots c.self.inside.heads.entries c.in-Some.head.first c.storage.inside.0 c.args.slot c.in-Some-put_first.triplet c.self.inside.ids c.self.inside.delimiter c.self.invariant.arena c.in-Some.ensures.first c.in-Some-put_first.ensures.found
          c.put_first.new.slots c.detach.new.slots c.attach.new.slots c.detach.new.first c.attach.new.first _ c.put_first.ensures.slots c.detach.ensures.slots c.detach.ensures.first c.attach.ensures.slots (c.set_head.ensures.entries c.storage.inside.0 c.in-Some.head.first c.in-Some.ensures.index) c.attach.ensures.first c.set_head.ensures.unique;
      bounded = below-moved c.self.inside.slots c.put_first.new.slots c.detach.new.slots c.attach.new.slots c.in-Some.head.first c.detach.new.first c.args.slot c.storage.inside.0 c.in-Some-put_first.triplet c.self.inside.bound c.put_first.ensures.slots c.detach.ensures.slots c.attach.ensures.slots c.self.invariant.bounded;
    }

pub returns-in-Some-put_first-clause-after : goal.returns-in-Some-put_first-clause-after
returns-in-Some-put_first-clause-after c =
    rw (← c.self.view_is, ← c.storage.view_is)
    (move_front-view c.self.inside.slots c.self.inside.heads.entries c.in-Some.head.first c.storage.inside.0 c.args.slot c.in-Some-put_first.triplet c.self.inside.ids c.self.inside.delimiter c.self.invariant.arena c.in-Some.ensures.first c.in-Some-put_first.ensures.found
    c.put_first.new.slots c.detach.new.slots c.attach.new.slots c.detach.new.first c.attach.new.first _ c.self.inside.steps c.saturating_next-self-inside.result c.self.inside.bound c.put_first.ensures.slots c.detach.ensures.slots c.detach.ensures.first c.attach.ensures.slots (c.set_head.ensures.entries c.storage.inside.0 c.in-Some.head.first c.in-Some.ensures.index) c.attach.ensures.first
    c.saturating_next-self-inside.ensures)

pub returns-in_default : goal.returns-in_default
returns-in_default c =
    let there = rw (← c.self.view_is, ← c.storage.view_is) at c.requires in
    absurd (no_list c.self.inside.slots c.self.inside.heads.entries c.storage.inside.0 c.args.slot c.self.invariant.arena.sound c.in_default.ensures.first there)

pub returns-in-Some-put_first-clause-lawful : goal.returns-in-Some-put_first-clause-lawful
returns-in-Some-put_first-clause-lawful c = IsLawful-arena c.attach.new.slots _ _ _ _ (invariant_of-self c) _

pub returns-in-Some-put_first-clause-list : goal.returns-in-Some-put_first-clause-list
returns-in-Some-put_first-clause-list c =
    let lawful : IsLawful c.args.self.now = rw (← c.self.view_is) (IsLawful-arena c.self.inside.slots _ _ _ _ c.self.invariant _) in
    ap (λ a. list_of a c.args.storage) (returns-in-Some-put_first-clause-after c) ∙ list_of-moved_front c.args.self.now c.args.slot c.args.storage (head-lawful c.args.self.now lawful c.args.slot c.args.storage c.requires)

pub returns-in-Some-put_first-clause-others : goal.returns-in-Some-put_first-clause-others
returns-in-Some-put_first-clause-others c =
    let P : Contents → Type 0 = λ a. KeepsOthers c.args.self.now a c.args.slot c.args.storage in
    subst P (sym (returns-in-Some-put_first-clause-after c)) (others-moved_front c.args.self.now c.args.slot c.args.storage)

pub returns-in-Some-put_first-clause-blocks : goal.returns-in-Some-put_first-clause-blocks
returns-in-Some-put_first-clause-blocks c = ap (λ a. a.blocks) (returns-in-Some-put_first-clause-after c)

pub returns-in-Some-put_first-clause-replicas : goal.returns-in-Some-put_first-clause-replicas
returns-in-Some-put_first-clause-replicas c = replicas-moved _ _ (returns-in-Some-put_first-clause-others c).ids (returns-in-Some-put_first-clause-blocks c)

pub returns-in-Some-put_first-clause-known : goal.returns-in-Some-put_first-clause-known
returns-in-Some-put_first-clause-known c = let others = returns-in-Some-put_first-clause-others c in blocks-kept _ _ c.args.slot others.ids others.blocks others.known

pub invariant_of-self-in_default-put_first : goal.invariant_of-self-in_default-put_first
invariant_of-self-in_default-put_first c =
    let there = rw (← c.self.view_is, ← c.storage.view_is) at c.requires in
    absurd (no_replica c.self.inside.slots c.storage.inside.0 c.args.slot c.in_default-put_first.ensures.found there)

pub returns-in_default-put_first : goal.returns-in_default-put_first
returns-in_default-put_first c =
    let there = rw (← c.self.view_is, ← c.storage.view_is) at c.requires in
    absurd (no_replica c.self.inside.slots c.storage.inside.0 c.args.slot c.in_default-put_first.ensures.found there)
