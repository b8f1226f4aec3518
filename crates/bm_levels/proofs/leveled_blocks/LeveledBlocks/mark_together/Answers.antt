use Rattle.std.proofs.Common.{◌≡◌, ℕ, Some, false, subst, sym, ap, ◌∙◌, inl, inr}
use Rattle.std.proofs.lemmas.Bool.{cases_eq, true≢false}
use Rattle.bm_base.specs.Maps.Map.{revise}
use Rattle.bm_arena.specs.Contents.{block_at, slot_of}
use Rattle.bm_arena.specs.HeldMaps.{replicas_of}
use Rattle.bm_levels.specs.Changes.{excess_on, has_block}
use Rattle.bm_levels.specs.LeveledBlocks.{Leveled, AreLevels}
use Rattle.bm_levels.proofs.AllMarks.{block_replicas}
use Rattle.bm_levels.proofs.ListedMarks.{excess_by}
use Rattle.bm_levels.proofs.GroupedReplicas.{group_marks, some_of_block}
use Rattle.bm_levels.proofs.OneSlot.{IsChangedAt, held_by, leveled_after, levels_after}
use Rattle.bm_levels.proofs.RevisedHoldings.{replicas_absent_by}
use Rattle.bm_levels.proofs.leveled_blocks.LeveledBlocks.mark_together.Goals as goal

pub returns-in_default-clause-replicas : goal.returns-in_default-clause-replicas
returns-in_default-clause-replicas c =
    let a = c.args.self.now.arena in
    let ps = c.args.group.now in
    let b = c.args.block in
    replicas_absent_by a b (excess_on ps) (sym c.in_default.ensures)
    ∙ (λ i. revise (replicas_of a) (λ q m. group_marks b ps c.requires.block q m i))

abbrev before : goal.After-update_level → Leveled
before c = record { arena = c.self.inside.arena; level_index = c.self.inside.level_index }

here : (c : goal.After-update_level) → slot_of c.self.inside.arena c.args.block ≡ Some c.in-Some.slot
here c = let P : Leveled → Type 0 = λ v. slot_of v.arena c.args.block ≡ Some c.in-Some.slot in subst P (sym c.self.view_is) (sym c.in-Some.ensures)

at_slot : (c : goal.After-update_level) → IsChangedAt c.self.inside.arena c.mark_listed.new.arena c.in-Some.slot
at_slot c =
    let found = c.show_invariant.ensures.found c.args.block c.in-Some.slot (here c) in
    let rest = c.mark_listed.ensures.rest in
    record { blocks = rest.blocks; delimiter = rest.delimiter; apart = found.0; held = held_by c.self.inside.arena c.in-Some.slot found }

pub invariant_of-self : goal.invariant_of-self
invariant_of-self c =
    leveled_after c.args.topology.now.cluster (before c) c.mark_listed.new.arena c.update_level.new.self c.in-Some.slot (at_slot c) c.update_level.ensures.status c.update_level.ensures.others c.self.invariant c.update_level.ensures.capacity

pub returns-clause-replicas : goal.returns-clause-replicas
returns-clause-replicas c =
    let ps = c.args.group.now in
    let b = c.args.block in
    let P : Leveled → Type 0 = λ v. replicas_of c.mark_listed.new.arena ≡ revise (replicas_of v.arena) (excess_by ps) in
    subst P c.self.view_is
    (block_replicas (excess_on ps) c.self.inside.arena c.mark_listed.new.arena c.in-Some.slot b c.show_invariant.ensures (here c) c.mark_listed.ensures.rest c.mark_listed.ensures.replicas
    ∙ (λ i. revise (replicas_of c.self.inside.arena) (λ q m. group_marks b ps c.requires.block q m i)))

pub returns-clause-others : goal.returns-clause-others
returns-clause-others c =
    let ps = c.args.group.now in
    let P : Leveled → Type 0 = λ v. (slot : ℕ) → ((b : ℕ) → slot_of v.arena b ≡ Some slot → has_block ps b ≡ false) → block_at c.mark_listed.new.arena slot ≡ block_at v.arena slot in
    subst P c.self.view_is
    (λ slot none.
    elim (cases_eq slot c.in-Some.slot) [
      | inl same ↦ absurd (true≢false (sym (some_of_block c.args.block ps c.requires.some c.requires.block) ∙ none c.args.block (here c ∙ ap Some (sym same))))
      | inr differs ↦ c.mark_listed.ensures.rest.blocks slot differs
    ])

pub returns-clause-levels : goal.returns-clause-levels
returns-clause-levels c =
    let P : Leveled → Type 0 = λ v. AreLevels c.args.topology.now.cluster v → AreLevels c.args.topology.now.cluster (record { arena = c.mark_listed.new.arena; level_index = c.update_level.new.self }) in
    subst P c.self.view_is (levels_after c.args.topology.now.cluster (before c) c.mark_listed.new.arena c.update_level.new.self c.in-Some.slot (at_slot c) c.update_level.ensures.status c.update_level.ensures.others)
