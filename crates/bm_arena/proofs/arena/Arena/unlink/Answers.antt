use Rattle.std.proofs.Common.{ap, sym, subst, ◌∙◌}
use Rattle.bm_arena.specs.Contents.{Contents, list_of, marks_at, KeepsOthers, IsLawful}
use Rattle.bm_arena.proofs.Laws.{head-lawful, list_of-unlinked, marks_at-unlinked, others-unlinked}
use Rattle.bm_arena.proofs.ListCalls.{unlink-sound, unlink-view, no_list, no_replica}
use Rattle.bm_arena.proofs.Lawfulness.{IsLawful-arena}
use Rattle.bm_arena.proofs.Bounds.{below-unlinked}
use Rattle.bm_arena.proofs.HeldReplicas.{replicas-out, blocks-kept}
use Rattle.bm_arena.proofs.arena.Arena.unlink.Goals as goal

pub invariant_of-self : goal.invariant_of-self
invariant_of-self c =
    record {
      arena =
          unlink-sound c.self.inside.slots c.self.inside.heads.entries c.in-Some.head.first c.storage.inside.0 c.args.slot c.in-Some-remove_triplet.triplet c.self.inside.ids c.self.inside.delimiter c.self.invariant.arena c.in-Some.ensures.first c.in-Some-remove_triplet.ensures.found
          c.remove_triplet.new.slots c.detach.new.slots _ c.detach.new.first c.remove_triplet.ensures.slots c.detach.ensures.slots (c.set_head.ensures.entries c.storage.inside.0 c.in-Some.head.first c.in-Some.ensures.index) c.detach.ensures.first c.set_head.ensures.unique;
      bounded = below-unlinked c.self.inside.slots c.remove_triplet.new.slots c.detach.new.slots c.args.slot c.storage.inside.0 c.in-Some-remove_triplet.triplet c.self.inside.bound c.remove_triplet.ensures.slots c.detach.ensures.slots c.self.invariant.bounded;
    }

pub returns-in-Some-remove_triplet-clause-after : goal.returns-in-Some-remove_triplet-clause-after
returns-in-Some-remove_triplet-clause-after c =
    rw (← c.self.view_is, ← c.storage.view_is)
    (unlink-view c.self.inside.slots c.self.inside.heads.entries c.in-Some.head.first c.storage.inside.0 c.args.slot c.in-Some-remove_triplet.triplet c.self.inside.ids c.self.inside.delimiter c.self.invariant.arena c.in-Some.ensures.first c.in-Some-remove_triplet.ensures.found
    c.remove_triplet.new.slots c.detach.new.slots _ c.detach.new.first c.self.inside.steps c.saturating_next-self-inside.result c.self.inside.bound c.remove_triplet.ensures.slots c.detach.ensures.slots (c.set_head.ensures.entries c.storage.inside.0 c.in-Some.head.first c.in-Some.ensures.index) c.detach.ensures.first
    c.saturating_next-self-inside.ensures)

pub returns-in_default : goal.returns-in_default
returns-in_default c =
    let there = rw (← c.self.view_is, ← c.storage.view_is) at c.requires in
    absurd (no_list c.self.inside.slots c.self.inside.heads.entries c.storage.inside.0 c.args.slot c.self.invariant.arena.sound c.in_default.ensures.first there)

pub returns-in-Some-remove_triplet-clause-lawful : goal.returns-in-Some-remove_triplet-clause-lawful
returns-in-Some-remove_triplet-clause-lawful c = IsLawful-arena c.detach.new.slots _ _ _ _ (invariant_of-self c) _

pub returns-in-Some-remove_triplet-clause-list : goal.returns-in-Some-remove_triplet-clause-list
returns-in-Some-remove_triplet-clause-list c =
    let lawful : IsLawful c.args.self.now = rw (← c.self.view_is) (IsLawful-arena c.self.inside.slots _ _ _ _ c.self.invariant _) in
    ap (λ a. list_of a c.args.storage) (returns-in-Some-remove_triplet-clause-after c) ∙ list_of-unlinked c.args.self.now c.args.slot c.args.storage (head-lawful c.args.self.now lawful c.args.slot c.args.storage c.requires)

pub returns-in-Some-remove_triplet-clause-marks : goal.returns-in-Some-remove_triplet-clause-marks
returns-in-Some-remove_triplet-clause-marks c =
    let lawful : IsLawful c.args.self.now = rw (← c.self.view_is) (IsLawful-arena c.self.inside.slots _ _ _ _ c.self.invariant _) in
    ap (λ a. marks_at a c.args.slot c.args.storage) (returns-in-Some-remove_triplet-clause-after c) ∙ marks_at-unlinked c.args.self.now lawful c.args.slot c.args.storage

pub returns-in-Some-remove_triplet-clause-others : goal.returns-in-Some-remove_triplet-clause-others
returns-in-Some-remove_triplet-clause-others c =
    let lawful : IsLawful c.args.self.now = rw (← c.self.view_is) (IsLawful-arena c.self.inside.slots _ _ _ _ c.self.invariant _) in
    let P : Contents → Type 0 = λ a. KeepsOthers c.args.self.now a c.args.slot c.args.storage in
    subst P (sym (returns-in-Some-remove_triplet-clause-after c)) (others-unlinked c.args.self.now lawful c.args.slot c.args.storage)

pub returns-in-Some-remove_triplet-clause-replicas : goal.returns-in-Some-remove_triplet-clause-replicas
returns-in-Some-remove_triplet-clause-replicas c id here =
    let lawful : IsLawful c.args.self.now = rw (← c.self.view_is) (IsLawful-arena c.self.inside.slots _ _ _ _ c.self.invariant _) in
    let others = returns-in-Some-remove_triplet-clause-others c in
    replicas-out c.args.self.now _ lawful c.args.slot c.args.storage id here others.ids others.blocks others.marks (returns-in-Some-remove_triplet-clause-marks c)

pub returns-in-Some-remove_triplet-clause-known : goal.returns-in-Some-remove_triplet-clause-known
returns-in-Some-remove_triplet-clause-known c = let others = returns-in-Some-remove_triplet-clause-others c in blocks-kept _ _ c.args.slot others.ids others.blocks others.known

pub invariant_of-self-in_default-remove_triplet : goal.invariant_of-self-in_default-remove_triplet
invariant_of-self-in_default-remove_triplet c =
    let there = rw (← c.self.view_is, ← c.storage.view_is) at c.requires in
    absurd (no_replica c.self.inside.slots c.storage.inside.0 c.args.slot c.in_default-remove_triplet.ensures.found there)

pub returns-in_default-remove_triplet : goal.returns-in_default-remove_triplet
returns-in_default-remove_triplet c =
    let there = rw (← c.self.view_is, ← c.storage.view_is) at c.requires in
    absurd (no_replica c.self.inside.slots c.storage.inside.0 c.args.slot c.in_default-remove_triplet.ensures.found there)
