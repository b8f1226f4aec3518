use Rattle.std.proofs.Common.{ap, sym, subst, ◌∙◌}
use Rattle.bm_arena.specs.Contents.{Contents, list_of, marks_at, KeepsOthers}
use Rattle.bm_arena.proofs.Laws.{list_of-linked_front, marks_at-linked, others-linked_front}
use Rattle.bm_arena.proofs.ListCalls.{link_front-sound, link_front-view, no_head}
use Rattle.bm_arena.proofs.Lawfulness.{IsLawful-arena}
use Rattle.bm_arena.proofs.Bounds.{below-linked}
use Rattle.bm_arena.specs.Contents.{IsLawful}
use Rattle.bm_arena.proofs.HeldReplicas.{replicas-put, blocks-kept}
use Rattle.bm_arena.proofs.arena.Arena.link_front.Goals as goal

pub invariant_of-self : goal.invariant_of-self
invariant_of-self c =
    let capacity = rw (← c.self.view_is) at c.requires.capacity in
    let absent = rw (← c.self.view_is, ← c.storage.view_is) at c.requires.absent in
    record {
      arena =
          link_front-sound c.self.inside.slots c.self.inside.heads.entries c.in-Some.head.first c.storage.inside.0 c.args.slot c.args.marks c.self.inside.ids c.self.inside.delimiter c.self.invariant.arena c.in-Some.ensures.first capacity absent
          c.add_triplet.new.slots c.attach.new.slots _ c.attach.new.first c.add_triplet.ensures c.attach.ensures.slots (c.set_head.ensures.entries c.storage.inside.0 c.in-Some.head.first c.in-Some.ensures.index) c.attach.ensures.first c.set_head.ensures.unique;
      bounded = below-linked c.self.inside.slots c.add_triplet.new.slots c.attach.new.slots c.in-Some.head.first c.args.slot c.storage.inside.0 _ c.self.inside.bound c.add_triplet.ensures c.attach.ensures.slots c.self.invariant.bounded;
    }

pub returns-in-Some-clause-after : goal.returns-in-Some-clause-after
returns-in-Some-clause-after c =
    let capacity = rw (← c.self.view_is) at c.requires.capacity in
    let absent = rw (← c.self.view_is, ← c.storage.view_is) at c.requires.absent in
    rw (← c.self.view_is, ← c.storage.view_is)
    (link_front-view c.self.inside.slots c.self.inside.heads.entries c.in-Some.head.first c.storage.inside.0 c.args.slot c.args.marks c.self.inside.ids c.self.inside.delimiter c.self.invariant.arena c.in-Some.ensures.first capacity absent
    c.add_triplet.new.slots c.attach.new.slots _ c.attach.new.first c.self.inside.steps c.saturating_next-self-inside.result c.self.inside.bound c.add_triplet.ensures c.attach.ensures.slots (c.set_head.ensures.entries c.storage.inside.0 c.in-Some.head.first c.in-Some.ensures.index) c.attach.ensures.first
    c.saturating_next-self-inside.ensures)

pub returns-in_default : goal.returns-in_default
returns-in_default c =
    let head = rw (← c.self.view_is, ← c.storage.view_is) at c.requires.head in
    absurd (no_head c.self.inside.slots c.self.inside.heads.entries c.storage.inside.0 c.in_default.ensures.first head)

pub returns-in-Some-clause-lawful : goal.returns-in-Some-clause-lawful
returns-in-Some-clause-lawful c = IsLawful-arena c.attach.new.slots _ _ _ _ (invariant_of-self c) _

pub returns-in-Some-clause-list : goal.returns-in-Some-clause-list
returns-in-Some-clause-list c =
    ap (λ a. list_of a c.args.storage) (returns-in-Some-clause-after c) ∙ list_of-linked_front c.args.self.now c.args.slot c.args.storage c.args.marks c.requires.head

pub returns-in-Some-clause-marks : goal.returns-in-Some-clause-marks
returns-in-Some-clause-marks c =
    ap (λ a. marks_at a c.args.slot c.args.storage) (returns-in-Some-clause-after c) ∙ marks_at-linked c.args.self.now c.args.slot c.args.storage c.args.marks c.requires.capacity c.requires.absent

pub returns-in-Some-clause-others : goal.returns-in-Some-clause-others
returns-in-Some-clause-others c =
    let P : Contents → Type 0 = λ a. KeepsOthers c.args.self.now a c.args.slot c.args.storage in
    subst P (sym (returns-in-Some-clause-after c)) (others-linked_front c.args.self.now c.args.slot c.args.storage c.args.marks)

pub returns-in-Some-clause-replicas : goal.returns-in-Some-clause-replicas
returns-in-Some-clause-replicas c id here =
    let lawful : IsLawful c.args.self.now = rw (← c.self.view_is) (IsLawful-arena c.self.inside.slots _ _ _ _ c.self.invariant _) in
    let others = returns-in-Some-clause-others c in
    replicas-put c.args.self.now _ lawful c.args.slot c.args.storage id here others.ids others.blocks others.marks c.args.marks (returns-in-Some-clause-marks c)

pub returns-in-Some-clause-known : goal.returns-in-Some-clause-known
returns-in-Some-clause-known c = let others = returns-in-Some-clause-others c in blocks-kept _ _ c.args.slot others.ids others.blocks others.known
