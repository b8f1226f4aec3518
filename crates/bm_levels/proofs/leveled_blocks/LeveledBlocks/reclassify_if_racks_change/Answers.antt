use Rattle.std.proofs.Common.{subst}
use Rattle.bm_base.specs.Machine.Replicas.{rack_of, is_draining}
use Rattle.bm_levels.specs.LeveledBlocks.{Leveled, AreLevels}
use Rattle.bm_levels.specs.LevelsBy.{AreLevelsBy}
use Rattle.bm_levels.proofs.ReclassifiedSlots.{led_held, leveled_each, levels_each}
use Rattle.bm_levels.proofs.leveled_blocks.LeveledBlocks.reclassify_if_racks_change.Goals as goal

pub reclassify_every_block-requires : goal.reclassify_every_block-requires
reclassify_every_block-requires c = λ slot there. c.self.invariant.capacity slot (led_held c.self.inside.arena c.show_invariant.ensures slot there)

pub invariant_of-self : goal.invariant_of-self
invariant_of-self c =
    leveled_each c.args.topology.now.cluster c.args.multi (record { arena = c.self.inside.arena; level_index = c.self.inside.level_index }) c.reclassify_every_block.new.self
    c.reclassify_every_block.ensures.status c.reclassify_every_block.ensures.others c.self.invariant c.reclassify_every_block.ensures.capacity

pub returns-clause-levels : goal.returns-clause-levels
returns-clause-levels c =
    let C = c.args.topology.now.cluster in
    let P : Leveled → Type 0 = λ v. AreLevels C v → AreLevelsBy (rack_of C) (is_draining C) c.args.multi (record { arena = c.self.inside.arena; level_index = c.reclassify_every_block.new.self }) in
    subst P c.self.view_is
    (levels_each C c.args.multi (record { arena = c.self.inside.arena; level_index = c.self.inside.level_index }) c.reclassify_every_block.new.self
    c.reclassify_every_block.ensures.status c.reclassify_every_block.ensures.others c.show_invariant.ensures c.self.invariant)
