use Rattle.std.proofs.Common.{◌≡◌, false, Some, refl, subst, sym, ap, ◌∙◌}
use Rattle.bm_base.specs.declared.replica.Marks.{Marks}
use Rattle.bm_base.specs.Machine.Replicas.{rack_of, is_draining, is_multi_rack}
use Rattle.bm_arena.specs.Triplets.{change_block}
use Rattle.bm_arena.specs.Contents.{slot_of, marks_at, with_marks}
use Rattle.bm_levels.specs.Changes.{as_ordered}
use Rattle.bm_levels.specs.Status.{is_good_and_unmarked}
use Rattle.bm_levels.specs.LeveledBlocks.{Leveled, AreLevels}
use Rattle.bm_levels.proofs.OneSlot.{held_by, leveled_after, levels_after}
use Rattle.bm_levels.proofs.DeleteOrdered.{level_ordered, not_plain_then, unsettled_by, leveled_alike, levels_alike}
use Rattle.bm_levels.proofs.leveled_blocks.LeveledBlocks.order_delete.Goals as goal

pub invariant_of-self : goal.invariant_of-self
invariant_of-self c =
    let r = c.set_marks_near.ensures.rest in
    let P : Leveled → Type 0 = λ v. slot_of v.arena c.requires.slot.0 ≡ Some c.args.slot in
    let here = subst P (sym c.self.view_is) c.requires.slot.1 in
    leveled_after c.args.topology.now.cluster (record { arena = c.self.inside.arena; level_index = c.self.inside.level_index }) c.set_marks_near.new.self c.update_level.new.self c.args.slot
    (record { blocks = r.blocks; delimiter = r.delimiter; apart = (c.show_invariant.ensures.found c.requires.slot.0 c.args.slot here).0; held = held_by c.self.inside.arena c.args.slot (c.show_invariant.ensures.found c.requires.slot.0 c.args.slot here) })
    c.update_level.ensures.status c.update_level.ensures.others c.self.invariant c.update_level.ensures.capacity

pub invariant_of-self-else-is_good_and_unmarked : goal.invariant_of-self-else-is_good_and_unmarked
invariant_of-self-else-is_good_and_unmarked c =
    let r = c.set_marks_near.ensures.rest in
    let s = c.args.storage in
    let P : Leveled → Type 0 = λ v. slot_of v.arena c.requires.slot.0 ≡ Some c.args.slot in
    let Q : Leveled → Type 0 = λ v. marks_at v.arena c.args.slot s ≡ Some c.args.marks in
    let here = subst P (sym c.self.view_is) c.requires.slot.1 in
    let was : marks_at c.self.inside.arena c.args.slot s ≡ Some c.args.marks = subst Q (sym c.self.view_is) c.requires.replica in
    let before : is_good_and_unmarked c.args.marks ≡ false = sym c.is_good_and_unmarked.ensures ∙ c.if-is_good_and_unmarked.false in
    let now : marks_at c.set_marks_near.new.self c.args.slot s ≡ Some (as_ordered c.args.marks) = c.set_marks_near.ensures.marks (rw was refl) ∙ ap (λ (m : Marks). Some m) c.with_order.ensures in
    leveled_alike (record { arena = c.self.inside.arena; level_index = c.self.inside.level_index }) c.set_marks_near.new.self c.args.slot
    (record { blocks = r.blocks; delimiter = r.delimiter; apart = (c.show_invariant.ensures.found c.requires.slot.0 c.args.slot here).0; held = held_by c.self.inside.arena c.args.slot (c.show_invariant.ensures.found c.requires.slot.0 c.args.slot here) })
    c.set_marks_near.ensures.known
    (unsettled_by c.set_marks_near.new.self c.args.slot s (as_ordered c.args.marks) now (not_plain_then c.args.marks) ∙ sym (unsettled_by c.self.inside.arena c.args.slot s c.args.marks was before))
    c.self.invariant

pub returns-then-is_good_and_unmarked-clause-levels : goal.returns-then-is_good_and_unmarked-clause-levels
returns-then-is_good_and_unmarked-clause-levels c =
    let r = c.set_marks_near.ensures.rest in
    let P : Leveled → Type 0 = λ v. slot_of v.arena c.requires.slot.0 ≡ Some c.args.slot in
    let here = subst P (sym c.self.view_is) c.requires.slot.1 in
    let Q : Leveled → Type 0 = λ v. AreLevels c.args.topology.now.cluster v → AreLevels c.args.topology.now.cluster (record { arena = c.set_marks_near.new.self; level_index = c.update_level.new.self }) in
    subst Q c.self.view_is (levels_after c.args.topology.now.cluster (record { arena = c.self.inside.arena; level_index = c.self.inside.level_index }) c.set_marks_near.new.self c.update_level.new.self c.args.slot
    (record { blocks = r.blocks; delimiter = r.delimiter; apart = (c.show_invariant.ensures.found c.requires.slot.0 c.args.slot here).0; held = held_by c.self.inside.arena c.args.slot (c.show_invariant.ensures.found c.requires.slot.0 c.args.slot here) })
    c.update_level.ensures.status c.update_level.ensures.others)

pub returns-else-is_good_and_unmarked-clause-levels : goal.returns-else-is_good_and_unmarked-clause-levels
returns-else-is_good_and_unmarked-clause-levels c =
    let C = c.args.topology.now.cluster in
    let r = c.set_marks_near.ensures.rest in
    let s = c.args.storage in
    let P : Leveled → Type 0 = λ v. slot_of v.arena c.requires.slot.0 ≡ Some c.args.slot in
    let M : Leveled → Type 0 = λ v. marks_at v.arena c.args.slot s ≡ Some c.args.marks in
    let here = subst P (sym c.self.view_is) c.requires.slot.1 in
    let was : marks_at c.self.inside.arena c.args.slot s ≡ Some c.args.marks = subst M (sym c.self.view_is) c.requires.replica in
    let after : c.set_marks_near.new.self ≡ record c.self.inside.arena { blocks = change_block (with_marks s (as_ordered c.args.marks)) c.self.inside.arena.blocks c.args.slot } =
    c.set_marks_near.ensures.after
    ∙ ap (λ (m : Marks). record c.self.inside.arena { blocks = change_block (with_marks s m) c.self.inside.arena.blocks c.args.slot }) c.with_order.ensures in
    let Q : Leveled → Type 0 = λ v. AreLevels C v → AreLevels C (record { arena = c.set_marks_near.new.self; level_index = c.self.inside.level_index }) in
    subst Q c.self.view_is (levels_alike (record { arena = c.self.inside.arena; level_index = c.self.inside.level_index }) c.set_marks_near.new.self c.args.slot
    (record { blocks = r.blocks; delimiter = r.delimiter; apart = (c.show_invariant.ensures.found c.requires.slot.0 c.args.slot here).0; held = held_by c.self.inside.arena c.args.slot (c.show_invariant.ensures.found c.requires.slot.0 c.args.slot here) })
    C (level_ordered (rack_of C) (is_draining C) (is_multi_rack C) s c.args.marks c.self.inside.arena c.set_marks_near.new.self c.args.slot was after))
