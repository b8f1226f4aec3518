use Rattle.std.proofs.Common.{◌≡◌, ◌∙◌, ℕ, Some, subst, sym, ap}
use Rattle.std.specs.Prelude.{◌==◌, if◌then◌else◌, nat_eq}
use Rattle.std.specs.Map.{lookup}
use Rattle.bm_base.specs.Maps.Map.{revise}
use Rattle.bm_arena.specs.Contents.{slot_of, KeepsAllBut}
use Rattle.bm_arena.specs.HeldMaps.{blocks_of, replicas_of, with_known}
use Rattle.bm_levels.specs.Changes.{changed}
use Rattle.bm_levels.specs.LeveledBlocks.{Leveled, AreLevels}
use Rattle.bm_levels.proofs.AllMarks.{keeps_then, block_replicas, block_known}
use Rattle.bm_levels.proofs.OneSlot.{IsChangedAt, held_by, leveled_after, levels_after}
use Rattle.bm_levels.proofs.leveled_blocks.LeveledBlocks.change_block.Goals as goal

abbrev before : goal.After-update_level → Leveled
before c = record { arena = c.self.inside.arena; level_index = c.self.inside.level_index }

keeps : (c : goal.After-update_level) → KeepsAllBut c.args.slot c.self.inside.arena c.set_info.new.self
keeps c = keeps_then c.args.slot c.self.inside.arena c.change_marks.new.arena c.set_info.new.self c.change_marks.ensures.rest c.set_info.ensures.rest

here : (c : goal.After-update_level) → slot_of c.self.inside.arena c.requires.0 ≡ Some c.args.slot
here c = let P : Leveled → Type 0 = λ v. slot_of v.arena c.requires.0 ≡ Some c.args.slot in subst P (sym c.self.view_is) c.requires.1

at_slot : (c : goal.After-update_level) → IsChangedAt c.self.inside.arena c.set_info.new.self c.args.slot
at_slot c =
    let found = c.show_invariant.ensures.found c.requires.0 c.args.slot (here c) in
    record { blocks = (keeps c).blocks; delimiter = (keeps c).delimiter; apart = found.0; held = held_by c.self.inside.arena c.args.slot found }

pub invariant_of-self : goal.invariant_of-self
invariant_of-self c = leveled_after c.args.topology.now.cluster (before c) c.set_info.new.self c.update_level.new.self c.args.slot (at_slot c) c.update_level.ensures.status c.update_level.ensures.others c.self.invariant c.update_level.ensures.capacity

pub returns-clause-blocks : goal.returns-clause-blocks
returns-clause-blocks c =
    let P : Leveled → Type 0 = λ v. (id : ℕ) → slot_of v.arena id ≡ Some c.args.slot → blocks_of c.set_info.new.self ≡ with_known (blocks_of v.arena) id c.args.info in
    let a = c.self.inside.arena in
    let b = c.change_marks.new.arena in
    subst P c.self.view_is
    (λ id e.
    c.set_info.ensures.blocks id (ap (λ l. lookup (nat_eq id) l) c.change_marks.ensures.rest.ids ∙ e)
    ∙ ap (λ m. with_known m id c.args.info)
    (block_known (λ _ m. changed c.args.change m) a b c.args.slot id c.show_invariant.ensures e c.change_marks.ensures.rest c.change_marks.ensures.replicas c.change_marks.ensures.known))

pub returns-clause-replicas : goal.returns-clause-replicas
returns-clause-replicas c =
    let f = changed c.args.change in
    let P : Leveled → Type 0 = λ v. (id : ℕ) → slot_of v.arena id ≡ Some c.args.slot → replicas_of c.set_info.new.self ≡ revise (replicas_of v.arena) (λ q m. if q.block == id then f m else m) in
    subst P c.self.view_is
    (λ id e.
    c.set_info.ensures.replicas
    ∙ block_replicas (λ _ m. f m) c.self.inside.arena c.change_marks.new.arena c.args.slot id c.show_invariant.ensures e c.change_marks.ensures.rest c.change_marks.ensures.replicas)

pub returns-clause-rest : goal.returns-clause-rest
returns-clause-rest c = let P : Leveled → Type 0 = λ v. KeepsAllBut c.args.slot v.arena c.set_info.new.self in subst P c.self.view_is (keeps c)

pub returns-clause-levels : goal.returns-clause-levels
returns-clause-levels c =
    let P : Leveled → Type 0 = λ v. AreLevels c.args.topology.now.cluster v → AreLevels c.args.topology.now.cluster (record { arena = c.set_info.new.self; level_index = c.update_level.new.self }) in
    subst P c.self.view_is (levels_after c.args.topology.now.cluster (before c) c.set_info.new.self c.update_level.new.self c.args.slot (at_slot c) c.update_level.ensures.status c.update_level.ensures.others)
