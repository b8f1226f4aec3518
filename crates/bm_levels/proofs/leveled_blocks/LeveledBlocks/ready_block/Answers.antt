use Rattle.std.proofs.Common.{◌≢◌, ◌≡◌, ℕ, Some, not, subst, sym, ap, ◌∙◌}
use Rattle.bm_base.specs.Machine.State.{Cluster}
use Rattle.bm_arena.specs.Contents.{Contents, block_at, slot_of, empty_block, IsAdded}
use Rattle.bm_arena.specs.HeldMaps.{blocks_of, replicas_of}
use Rattle.bm_base.proofs.Options.{not_there}
use Rattle.bm_levels.specs.LeveledBlocks.{Leveled, AreLevels}
use Rattle.bm_report.proofs.SingleReplicas.{ok_then}
use Rattle.bm_levels.proofs.AddedEntries.{capacity_below, leveled_same, levels_same, leveled_added, levels_added, dropped_again, blocks_again, replicas_again, numbers_again}
use Rattle.bm_levels.proofs.UnusedEntries.{unused_held, some_before}
use Rattle.bm_levels.specs.UnusedEntries.{MakesNoUnused}
use Rattle.bm_levels.proofs.leveled_blocks.LeveledBlocks.ready_block.Goals as goal

abbrev first : goal.Else-is_err → Leveled
first c = record { arena = c.self.inside.arena; level_index = c.self.inside.level_index }

abbrev before : goal.After-drop_entry → Leveled
before c = record { arena = c.self.inside.arena; level_index = c.self.inside.level_index }

added_then : (c : goal.After-drop_entry) → IsAdded c.self.inside.arena c.add_entry.new.self c.args.id c.in_ok-slot.slot
added_then c = c.in_ok-slot.ensures.added (sym c.find.ensures ∙ not_there c.find.result (sym c.is_some.ensures ∙ c.if-is_some.false))

added_else : (c : goal.Else-is_err) → IsAdded c.self.inside.arena c.add_entry.new.self c.args.id c.in_ok-slot.slot
added_else c = c.in_ok-slot.ensures.added (sym c.find.ensures ∙ not_there c.find.result (sym c.is_some.ensures ∙ c.if-is_some.false))

again : (c : goal.After-drop_entry) → (z : ℕ) → block_at c.drop_entry.new.self z ≡ block_at c.self.inside.arena z
again c = dropped_again (before c) c.add_entry.new.self c.grow_to.new.self c.args.id c.in_ok-slot.slot c.show_invariant.ensures (added_then c) c.grow_to.ensures.same c.drop_entry.new.self c.drop_entry.ensures.entries

marker : (c : goal.After-drop_entry) → c.drop_entry.new.self.delimiter ≡ c.self.inside.arena.delimiter
marker c = ap (λ (x : Contents). x.delimiter) (c.drop_entry.ensures.after (empty_block c.args.id) (added_then c).entry) ∙ (added_then c).delimiter

numbers : (c : goal.After-drop_entry) → (b : ℕ) → slot_of c.drop_entry.new.self b ≡ slot_of c.self.inside.arena b
numbers c = numbers_again (before c) c.add_entry.new.self c.grow_to.new.self c.args.id c.in_ok-slot.slot c.show_invariant.ensures (added_then c) c.grow_to.ensures.same c.drop_entry.new.self c.drop_entry.ensures.entries
    (sym c.find.ensures ∙ not_there c.find.result (sym c.is_some.ensures ∙ c.if-is_some.false)) (c.drop_entry.ensures.numbers (empty_block c.args.id) (added_then c).entry)

pub invariant_of-self-then-is_err : goal.invariant_of-self-then-is_err
invariant_of-self-then-is_err c = leveled_same (before c) c.drop_entry.new.self c.grow_to.new.self (again c) (marker c) c.grow_to.ensures.same c.self.invariant c.grow_to.ensures.kept

pub returns-then-is_err-clause-blocks : goal.returns-then-is_err-clause-blocks
returns-then-is_err-clause-blocks c = blocks_again c.self.inside.arena c.drop_entry.new.self (again c) (numbers c) ∙ ap (λ (v : Leveled). blocks_of v.arena) c.self.view_is

pub returns-then-is_err-clause-replicas : goal.returns-then-is_err-clause-replicas
returns-then-is_err-clause-replicas c = replicas_again c.self.inside.arena c.drop_entry.new.self (again c) (numbers c) ∙ ap (λ (v : Leveled). replicas_of v.arena) c.self.view_is

pub returns-then-is_err-clause-numbers : goal.returns-then-is_err-clause-numbers
returns-then-is_err-clause-numbers c =
    let P : Leveled → Type 0 = λ v. (other slot : ℕ) → slot_of v.arena other ≡ Some slot → slot_of c.drop_entry.new.self other ≡ Some slot in
    subst P c.self.view_is (λ other slot e. numbers c other ∙ e)

pub returns-then-is_err-clause-levels : goal.returns-then-is_err-clause-levels
returns-then-is_err-clause-levels c =
    let P : Leveled → Type 0 = λ v. (C : Cluster) → AreLevels C v → AreLevels C (record { arena = c.drop_entry.new.self; level_index = c.grow_to.new.self }) in
    subst P c.self.view_is (levels_same (before c) c.drop_entry.new.self c.grow_to.new.self (again c) (marker c) c.grow_to.ensures.same)

pub invariant_of-self-else-is_err : goal.invariant_of-self-else-is_err
invariant_of-self-else-is_err c =
    leveled_added (first c) c.add_entry.new.self c.grow_to.new.self c.args.id c.in_ok-slot.slot c.show_invariant.ensures (added_else c) c.grow_to.ensures.same c.self.invariant
    (λ z there. capacity_below c.grow_to.new.self c.slot_bound.result z (ok_then c.grow_to.result _ (c.is_err.ensures.negation ∙ ap not c.if-is_err.false) c.grow_to.ensures.capacity) (c.slot_bound.ensures.above z there))

pub returns-clause-levels : goal.returns-clause-levels
returns-clause-levels c =
    let P : Leveled → Type 0 = λ v. (C : Cluster) → AreLevels C v → AreLevels C (record { arena = c.add_entry.new.self; level_index = c.grow_to.new.self }) in
    subst P c.self.view_is (levels_added (first c) c.add_entry.new.self c.grow_to.new.self c.args.id c.in_ok-slot.slot c.show_invariant.ensures (added_else c) c.grow_to.ensures.same)

pub returns-then-is_err-clause-others : goal.returns-then-is_err-clause-others
returns-then-is_err-clause-others c =
    let P : Leveled → Type 0 = λ v. (other : ℕ) → other ≢ c.args.id → slot_of c.drop_entry.new.self other ≡ slot_of v.arena other in
    subst P c.self.view_is (λ other _. numbers c other)

pub returns-then-is_err-clause-given_up : goal.returns-then-is_err-clause-given_up
returns-then-is_err-clause-given_up c =
    let P : Leveled → Type 0 = λ v. MakesNoUnused v.arena c.drop_entry.new.self in
    subst P c.self.view_is (λ b unused. unused_held c.self.inside.arena c.drop_entry.new.self b (some_before (numbers c b) unused.entry) (blocks_again c.self.inside.arena c.drop_entry.new.self (again c) (numbers c)) (replicas_again c.self.inside.arena c.drop_entry.new.self (again c) (numbers c)) unused)

pub returns-in_err-slot-clause-blocks : goal.returns-in_err-slot-clause-blocks
returns-in_err-slot-clause-blocks c = ap blocks_of c.in_err-slot.ensures.unchanged ∙ ap (λ (v : Leveled). blocks_of v.arena) c.self.view_is

pub returns-in_err-slot-clause-replicas : goal.returns-in_err-slot-clause-replicas
returns-in_err-slot-clause-replicas c = ap replicas_of c.in_err-slot.ensures.unchanged ∙ ap (λ (v : Leveled). replicas_of v.arena) c.self.view_is
