use Rattle.std.proofs.Common.{◌≡◌, ℕ, Bool, Option, Some, None, not, subst, sym, ap, ◌∙◌}
use Rattle.std.specs.Prelude.{◌≢◌, IsSome}
use Rattle.bm_base.specs.Words.{Cluster, rack_of, is_draining, is_multi_rack}
use Rattle.bm_arena.specs.Contents.{slot_of}
use Rattle.bm_arena.specs.HeldMaps.{blocks_of, replicas_of}
use Rattle.bm_base.proofs.Options.{not_there}
use Rattle.bm_levels.specs.LeveledBlocks.{Leveled, AreLevels}
use Rattle.bm_levels.specs.LevelsBy.{AreLevelsBy}
use Rattle.bm_levels.proofs.EmptiedEntries.{IsEmptied, emptied}
use Rattle.bm_levels.proofs.UnusedEntries.{slots_kept}
use Rattle.bm_levels.proofs.leveled_blocks.LeveledBlocks.drop_if_unused.Goals as goal

done : (c : goal.After-drop_entry) → IsEmptied (record { arena = c.self.inside.arena; level_index = c.self.inside.level_index }) c.drop_entry.new.self c.args.slot
done c =
    let P : Leveled → Type 0 = λ v. slot_of v.arena c.requires.0 ≡ Some c.args.slot in
    let here = subst P (sym c.self.view_is) c.requires.1 in
    emptied (record { arena = c.self.inside.arena; level_index = c.self.inside.level_index }) c.drop_entry.new.self c.args.slot c.requires.0 c.show_invariant.ensures here (c.has_no_replicas.ensures.0 c.if-has_no_replicas.true)
    (sym c.info.ensures ∙ not_there c.info.result (c.is_none.ensures ∙ ap not c.if-is_none.true)) c.drop_entry.ensures.after c.drop_entry.ensures.entries c.drop_entry.ensures.numbers

pub invariant_of-self : goal.invariant_of-self
invariant_of-self c = (done c).leveled c.self.invariant

pub returns-then-is_none-clause-blocks : goal.returns-then-is_none-clause-blocks
returns-then-is_none-clause-blocks c = (done c).blocks ∙ ap (λ (v : Leveled). blocks_of v.arena) c.self.view_is

pub returns-then-is_none-clause-replicas : goal.returns-then-is_none-clause-replicas
returns-then-is_none-clause-replicas c = (done c).replicas ∙ ap (λ (v : Leveled). replicas_of v.arena) c.self.view_is

pub returns-then-is_none-clause-numbers : goal.returns-then-is_none-clause-numbers
returns-then-is_none-clause-numbers c =
    let P : Leveled → Type 0 = λ v. (id : ℕ) → slot_of v.arena id ≢ Some c.args.slot → slot_of c.drop_entry.new.self id ≡ slot_of v.arena id in
    subst P c.self.view_is (done c).numbers

pub returns-then-is_none-clause-levels : goal.returns-then-is_none-clause-levels
returns-then-is_none-clause-levels c =
    let P : Leveled → Type 0 = λ v. (C : Cluster) → AreLevels C v → AreLevels C (record { arena = c.drop_entry.new.self; level_index = c.self.inside.level_index }) in
    subst P c.self.view_is (λ C. (done c).levels (rack_of C) (is_draining C) (is_multi_rack C))

pub returns-then-is_none-clause-levels_by : goal.returns-then-is_none-clause-levels_by
returns-then-is_none-clause-levels_by c =
    let P : Leveled → Type 0 = λ v. (rack : ℕ → Option ℕ) (draining : ℕ → Bool) (multi : Bool) → AreLevelsBy rack draining multi v → AreLevelsBy rack draining multi (record { arena = c.drop_entry.new.self; level_index = c.self.inside.level_index }) in
    subst P c.self.view_is (done c).levels

pub returns-then-is_none-clause-gone : goal.returns-then-is_none-clause-gone
returns-then-is_none-clause-gone c =
    let P : Leveled → Type 0 = λ v. (id : ℕ) → slot_of v.arena id ≡ Some c.args.slot → slot_of c.drop_entry.new.self id ≡ None in
    let gone = subst P c.self.view_is (done c).gone in
    λ id led none unknown. gone id led

pub returns-then-is_none-clause-slots : goal.returns-then-is_none-clause-slots
returns-then-is_none-clause-slots c =
    let P : Leveled → Type 0 = λ v. (id : ℕ) → IsSome (slot_of c.drop_entry.new.self id) → slot_of c.drop_entry.new.self id ≡ slot_of v.arena id in
    subst P c.self.view_is (slots_kept c.self.inside.arena c.drop_entry.new.self c.args.slot (done c).numbers (done c).gone)
