use Rattle.bm_arena.proofs.Lawfulness.{IsLawful-arena}
use Rattle.std.proofs.Common.{refl}
use Rattle.bm_arena.specs.Contents.{IsLawful}
use Rattle.bm_arena.proofs.KeptLinks.{set_marks-arena, set_marks-lists, set_marks-blocks}
use Rattle.bm_arena.specs.Triplets.{entry_view}
use Rattle.bm_arena.proofs.EntryViews.{seen_at}
use Rattle.bm_arena.proofs.Bounds.{below-changed}
use Rattle.bm_arena.proofs.MarksAfterSet.{marks_set}
use Rattle.bm_arena.proofs.arena.Arena.set_marks_near.Goals as goal

pub set_marks_near-requires : goal.set_marks_near-requires
set_marks_near-requires c e here = c.self.invariant.arena.sound.once c.args.slot (entry_view e) (seen_at c.self.inside.slots c.args.slot e here)

pub invariant_of-self : goal.invariant_of-self
invariant_of-self c =
    record {
      arena =
          set_marks-arena c.self.inside.slots c.set_marks_near.new.slots c.args.slot c.storage.inside.0 c.args.marks c.set_marks_near.ensures c.self.inside.ids c.self.inside.heads.entries c.self.inside.delimiter c.self.invariant.arena;
      bounded = below-changed _ c.self.inside.slots c.set_marks_near.new.slots c.args.slot c.self.inside.bound c.set_marks_near.ensures c.self.invariant.bounded;
    }

pub returns-clause-after : goal.returns-clause-after
returns-clause-after c =
    let lists = set_marks-lists c.self.inside.slots c.set_marks_near.new.slots c.args.slot c.storage.inside.0 c.args.marks c.set_marks_near.ensures c.self.inside.ids c.self.inside.heads.entries c.self.inside.delimiter c.self.invariant.arena in
    let blocks = set_marks-blocks c.self.inside.slots c.set_marks_near.new.slots c.args.slot c.storage.inside.0 c.args.marks c.set_marks_near.ensures c.self.inside.ids c.self.inside.heads.entries c.self.inside.delimiter c.self.invariant.arena in
    rw (← c.self.view_is, ← c.storage.view_is, lists, blocks) refl

pub returns-clause-lawful : goal.returns-clause-lawful
returns-clause-lawful c = IsLawful-arena _ _ _ _ _ (invariant_of-self c) _

lawful_before : (c : goal.After-set_marks_near) → IsLawful c.args.self.now
lawful_before c = rw (← c.self.view_is) (IsLawful-arena c.self.inside.slots _ _ _ _ c.self.invariant _)

pub returns-clause-marks : goal.returns-clause-marks
returns-clause-marks c = (marks_set c.args.self.now _ c.args.slot c.args.storage c.args.marks (lawful_before c) (returns-clause-after c)).marks

pub returns-clause-other_storages : goal.returns-clause-other_storages
returns-clause-other_storages c = (marks_set c.args.self.now _ c.args.slot c.args.storage c.args.marks (lawful_before c) (returns-clause-after c)).other_storages

pub returns-clause-others : goal.returns-clause-others
returns-clause-others c = (marks_set c.args.self.now _ c.args.slot c.args.storage c.args.marks (lawful_before c) (returns-clause-after c)).others

pub returns-clause-known : goal.returns-clause-known
returns-clause-known c = (marks_set c.args.self.now _ c.args.slot c.args.storage c.args.marks (lawful_before c) (returns-clause-after c)).known

pub returns-clause-rest : goal.returns-clause-rest
returns-clause-rest c = (marks_set c.args.self.now _ c.args.slot c.args.storage c.args.marks (lawful_before c) (returns-clause-after c)).rest

pub returns-clause-replicas : goal.returns-clause-replicas
returns-clause-replicas c = (marks_set c.args.self.now _ c.args.slot c.args.storage c.args.marks (lawful_before c) (returns-clause-after c)).replicas

pub returns-clause-blocks : goal.returns-clause-blocks
returns-clause-blocks c = (marks_set c.args.self.now _ c.args.slot c.args.storage c.args.marks (lawful_before c) (returns-clause-after c)).blocks
