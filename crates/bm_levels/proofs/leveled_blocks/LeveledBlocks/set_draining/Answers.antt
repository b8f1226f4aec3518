use Rattle.std.proofs.Common.{subst, inl, inr, Some}
use Rattle.std.specs.Prelude.{if◌then◌else◌}
use Rattle.bm_base.specs.Words.{rack_of, drain, undrain}
use Rattle.bm_levels.specs.Status.{drains_after_change}
use Rattle.bm_levels.specs.LeveledBlocks.{Leveled, AreLevels}
use Rattle.bm_levels.proofs.LeavingReplicas.{held_on}
use Rattle.bm_levels.proofs.ReclassifiedSlots.{leveled_again}
use Rattle.bm_levels.proofs.DrainChange.{drain_change, turned_all}
use Rattle.bm_levels.proofs.leveled_blocks.LeveledBlocks.set_draining.Goals as goal

pub reclassify_node-requires : goal.reclassify_node-requires
reclassify_node-requires c = λ slot storage there. c.self.invariant.capacity slot (held_on c.self.inside.arena c.show_invariant.ensures storage slot there)

pub invariant_of-self : goal.invariant_of-self
invariant_of-self c =
    let C = c.args.topology.now.cluster in
    leveled_again (rack_of C) (drains_after_change C (Some (drain_change c.args.node c.args.drains))) c.multi_rack.result (record { arena = c.self.inside.arena; level_index = c.self.inside.level_index }) c.reclassify_node.new.self
    (λ slot. elim (c.reclassify_node.ensures.each slot) [ inl status ↦ inl status | inr same ↦ inr same.0 ]) c.self.invariant c.reclassify_node.ensures.capacity

pub returns-clause-levels : goal.returns-clause-levels
returns-clause-levels c =
    let C = c.args.topology.now.cluster in
    let P : Leveled → Type 0 = λ v. AreLevels C v → AreLevels (if c.args.drains then drain C c.args.node else undrain C c.args.node) (record { arena = c.self.inside.arena; level_index = c.reclassify_node.new.self }) in
    subst P c.self.view_is
    (turned_all C c.args.node c.args.drains c.multi_rack.result (record { arena = c.self.inside.arena; level_index = c.self.inside.level_index }) c.reclassify_node.new.self c.multi_rack.ensures c.show_invariant.ensures c.reclassify_node.ensures.each)
