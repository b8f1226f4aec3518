use Rattle.std.proofs.Common.{◌≡◌, ◌+◌, subst, sym, arith}
use Rattle.bm_base.specs.Machine.RoundStart.{with_excess_reset}
use Rattle.bm_arena.specs.HeldMaps.{replicas_at}
use Rattle.bm_levels.specs.IndexedLevels.{IsUnsettled}
use Rattle.bm_levels.specs.Changes.{changed, all_changed}
use Rattle.bm_levels.specs.LeveledBlocks.{Leveled, AreLevels}
use Rattle.bm_levels.proofs.OneSlot.{IsChangedAt, leveled_after, levels_after}
use Rattle.bm_levels.proofs.RoundStart.{start_capacity, changed_there}
use Rattle.bm_levels.proofs.leveled_blocks.LeveledBlocks.clear_unordered_excess_at.Goals as goal

pub update_level-requires : goal.update_level-requires
update_level-requires c =
    let P : Leveled → Type 0 = λ v. IsUnsettled v.level_index c.args.slot in
    record { capacity = (c.args.slot + 1, omega arith, start_capacity (record { arena = c.self.inside.arena; level_index = c.self.inside.level_index }) c.self.invariant c.args.slot (subst P (sym c.self.view_is) c.requires)) }

abbrev before : goal.After-update_level → Leveled
before c = record { arena = c.self.inside.arena; level_index = c.self.inside.level_index }

at_slot : (c : goal.After-update_level) → IsChangedAt c.self.inside.arena c.change_marks.new.arena c.args.slot
at_slot c =
    let P : Leveled → Type 0 = λ v. IsUnsettled v.level_index c.args.slot in
    changed_there (before c) c.self.invariant c.change_marks.new.arena c.args.slot (subst P (sym c.self.view_is) c.requires) c.change_marks.ensures.rest

pub invariant_of-self : goal.invariant_of-self
invariant_of-self c =
    leveled_after c.args.topology.now.cluster (before c) c.change_marks.new.arena c.update_level.new.self c.args.slot (at_slot c) c.update_level.ensures.status c.update_level.ensures.others c.self.invariant c.update_level.ensures.capacity

pub returns-then-change_marks-clause-begun : goal.returns-then-change_marks-clause-begun
unfolding changed
returns-then-change_marks-clause-begun c =
    let P : Leveled → Type 0 = λ v. replicas_at c.change_marks.new.arena c.args.slot ≡ all_changed with_excess_reset (replicas_at v.arena c.args.slot) in
    subst P c.self.view_is c.change_marks.ensures.replicas

pub returns-else-change_marks-clause-begun : goal.returns-else-change_marks-clause-begun
unfolding changed
returns-else-change_marks-clause-begun c =
    let P : Leveled → Type 0 = λ v. replicas_at c.change_marks.new.arena c.args.slot ≡ all_changed with_excess_reset (replicas_at v.arena c.args.slot) in
    subst P c.self.view_is c.change_marks.ensures.replicas

pub returns-then-change_marks-clause-levels : goal.returns-then-change_marks-clause-levels
returns-then-change_marks-clause-levels c =
    let P : Leveled → Type 0 = λ v. AreLevels c.args.topology.now.cluster v → AreLevels c.args.topology.now.cluster (record { arena = c.change_marks.new.arena; level_index = c.update_level.new.self }) in
    subst P c.self.view_is (levels_after c.args.topology.now.cluster (before c) c.change_marks.new.arena c.update_level.new.self c.args.slot (at_slot c) c.update_level.ensures.status c.update_level.ensures.others)
