use Rattle.std.proofs.Common.{◌≡◌, Some, subst, sym}
use Rattle.bm_arena.specs.Contents.{slot_of}
use Rattle.bm_levels.specs.LeveledBlocks.{Leveled, AreLevels}
use Rattle.bm_levels.proofs.OneSlot.{held_by, leveled_after, levels_after}
use Rattle.bm_levels.proofs.leveled_blocks.LeveledBlocks.set_info.Goals as goal

pub invariant_of-self : goal.invariant_of-self
invariant_of-self c =
    let r = c.set_info.ensures.rest in
    let P : Leveled → Type 0 = λ v. slot_of v.arena c.requires.0 ≡ Some c.args.slot in
    let here = subst P (sym c.self.view_is) c.requires.1 in
    leveled_after c.args.topology.now.cluster (record { arena = c.self.inside.arena; level_index = c.self.inside.level_index }) c.set_info.new.self c.update_level.new.self c.args.slot
    (record { blocks = r.blocks; delimiter = r.delimiter; apart = (c.show_invariant.ensures.found c.requires.0 c.args.slot here).0; held = held_by c.self.inside.arena c.args.slot (c.show_invariant.ensures.found c.requires.0 c.args.slot here) })
    c.update_level.ensures.status c.update_level.ensures.others c.self.invariant c.update_level.ensures.capacity

pub returns-clause-levels : goal.returns-clause-levels
returns-clause-levels c =
    let r = c.set_info.ensures.rest in
    let P : Leveled → Type 0 = λ v. slot_of v.arena c.requires.0 ≡ Some c.args.slot in
    let here = subst P (sym c.self.view_is) c.requires.1 in
    let Q : Leveled → Type 0 = λ v. AreLevels c.args.topology.now.cluster v → AreLevels c.args.topology.now.cluster (record { arena = c.set_info.new.self; level_index = c.update_level.new.self }) in
    subst Q c.self.view_is (levels_after c.args.topology.now.cluster (record { arena = c.self.inside.arena; level_index = c.self.inside.level_index }) c.set_info.new.self c.update_level.new.self c.args.slot
    (record { blocks = r.blocks; delimiter = r.delimiter; apart = (c.show_invariant.ensures.found c.requires.0 c.args.slot here).0; held = held_by c.self.inside.arena c.args.slot (c.show_invariant.ensures.found c.requires.0 c.args.slot here) })
    c.update_level.ensures.status c.update_level.ensures.others)
