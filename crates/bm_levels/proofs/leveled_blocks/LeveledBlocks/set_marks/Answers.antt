use Rattle.std.proofs.Common.{◌≡◌, Some, subst, sym}
use Rattle.bm_arena.specs.Contents.{slot_of, KeepsEntries}
use Rattle.bm_arena.proofs.StableEntries.{entries-set}
use Rattle.bm_levels.specs.LeveledBlocks.{Leveled, AreLevels}
use Rattle.bm_levels.proofs.OneSlot.{held_by, leveled_after, levels_after}
use Rattle.bm_levels.proofs.leveled_blocks.LeveledBlocks.set_marks.Goals as goal

pub invariant_of-self : goal.invariant_of-self
invariant_of-self c =
    let r = c.set_marks.ensures.rest in
    let P : Leveled → Type 0 = λ v. slot_of v.arena c.requires.slot.0 ≡ Some c.args.slot in
    let here = subst P (sym c.self.view_is) c.requires.slot.1 in
    leveled_after c.args.topology.now.cluster (record { arena = c.self.inside.arena; level_index = c.self.inside.level_index }) c.set_marks.new.self c.update_level.new.self c.args.slot
    (record { blocks = r.blocks; delimiter = r.delimiter; apart = (c.show_invariant.ensures.found c.requires.slot.0 c.args.slot here).0; held = held_by c.self.inside.arena c.args.slot (c.show_invariant.ensures.found c.requires.slot.0 c.args.slot here) })
    c.update_level.ensures.status c.update_level.ensures.others c.self.invariant c.update_level.ensures.capacity

pub returns-clause-levels : goal.returns-clause-levels
returns-clause-levels c =
    let r = c.set_marks.ensures.rest in
    let P : Leveled → Type 0 = λ v. slot_of v.arena c.requires.slot.0 ≡ Some c.args.slot in
    let here = subst P (sym c.self.view_is) c.requires.slot.1 in
    let Q : Leveled → Type 0 = λ v. AreLevels c.args.topology.now.cluster v → AreLevels c.args.topology.now.cluster (record { arena = c.set_marks.new.self; level_index = c.update_level.new.self }) in
    subst Q c.self.view_is (levels_after c.args.topology.now.cluster (record { arena = c.self.inside.arena; level_index = c.self.inside.level_index }) c.set_marks.new.self c.update_level.new.self c.args.slot
    (record { blocks = r.blocks; delimiter = r.delimiter; apart = (c.show_invariant.ensures.found c.requires.slot.0 c.args.slot here).0; held = held_by c.self.inside.arena c.args.slot (c.show_invariant.ensures.found c.requires.slot.0 c.args.slot here) })
    c.update_level.ensures.status c.update_level.ensures.others)

pub returns-clause-entries : goal.returns-clause-entries
returns-clause-entries c =
    let P : Leveled → Type 0 = λ v. KeepsEntries v.arena c.set_marks.new.self in
    subst P c.self.view_is (entries-set c.self.inside.arena c.set_marks.new.self c.args.slot c.set_marks.ensures.rest c.set_marks.ensures.known)
