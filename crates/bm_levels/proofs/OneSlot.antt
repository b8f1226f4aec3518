-- If one slot changed and was reclassified, the invariant and the levels hold again.
use Rattle.std.specs.Prelude.{◌≡◌, ◌≢◌, ◌↔◌, ℕ, ◌+◌, IsSome, Bool, false, Some, None, Option, option_and_then}
use Rattle.std.proofs.Common.{refl, sym, ap, subst, ◌∙◌, inl, inr}
use Rattle.std.proofs.lemmas.Bool.{cases_eq}
use Rattle.bm_base.specs.Words.{Cluster, rack_of, is_draining, is_multi_rack}
use Rattle.bm_arena.specs.Triplets.{Block}
use Rattle.bm_arena.specs.Contents.{Contents, block_at, find_marks}
use Rattle.bm_arena.specs.HeldMaps.{info_at}
use Rattle.bm_levels.specs.Status.{level_by, is_settled_at}
use Rattle.bm_levels.specs.IndexedLevels.{IndexedLevels, level_of_slot, IsUnsettled, HasCapacityFor, IsClassified, IsSameAt}
use Rattle.bm_levels.specs.LeveledBlocks.{Leveled, IsLeveled, AreLevels}
use Rattle.bm_levels.specs.LevelsBy.{AreLevelsBy}
use Rattle.bm_levels.proofs.StatusByCounts.{level_unknown}

-- the slot of a number holds a block
pub held_by : (a : Contents) (slot : ℕ) {id : ℕ} → (slot ≢ a.delimiter) × (b : Block) × (block_at a slot ≡ Some b) × (b.id ≡ id) → IsSome (block_at a slot)
held_by a slot f = let P : Option Block → Type 0 = λ o. IsSome o in subst P (sym f.2) refl

-- only the block at one slot changed, which is not the delimiter's
pub record IsChangedAt (old new : Contents) (slot : ℕ) : Type 0 where
  pub blocks : (other : ℕ) → other ≢ slot → block_at new other ≡ block_at old other
  pub delimiter : new.delimiter ≡ old.delimiter
  pub apart : slot ≢ old.delimiter
  pub held : IsSome (block_at old slot)

module _ (rack : ℕ → Option ℕ) (draining : ℕ → Bool) (multi : Bool) (old : Leveled) (a : Contents) (K : IndexedLevels) (slot : ℕ) (changed : IsChangedAt old.arena a slot)
    (status : IsClassified rack draining multi (block_at a slot) K slot)
    (others : (other : ℕ) → other ≢ slot → IsSameAt old.level_index K other) where
  marker : block_at a a.delimiter ≡ block_at old.arena old.arena.delimiter
  marker = ap (block_at a) changed.delimiter ∙ changed.blocks old.arena.delimiter (λ e. changed.apart (sym e))

  pub leveled_where : IsLeveled old → ((bound : ℕ) → HasCapacityFor old.level_index bound → HasCapacityFor K bound) → IsLeveled (record { arena = a; level_index = K })
  leveled_where h capacity = record {
    free = λ s. ap (λ o. option_and_then (λ (b : Block). find_marks b.replicas s) o) marker ∙ h.free s;
    blank = ap (λ o. option_and_then (λ (b : Block). b.info) o) marker ∙ h.blank;
    capacity = λ z there. elim (cases_eq z slot) [
      | inl same ↦ let P : ℕ → Type 0 = λ x. HasCapacityFor K (x + 1) in subst P (sym same) (capacity (slot + 1) (h.capacity slot changed.held))
      | inr differs ↦ let P : Option Block → Type 0 = λ o. IsSome o in capacity (z + 1) (h.capacity z (subst P (changed.blocks z differs) there))
    ];
    unsettled = λ z. elim (cases_eq z slot) [
      | inl same ↦ let P : ℕ → Type 0 = λ x. IsUnsettled K x ↔ (is_settled_at (block_at a x) ≡ false) in subst P (sym same) status.unsettled
      | inr differs ↦
          let g = others z differs in
          let P : Option Block → Type 0 = λ o. IsUnsettled K z ↔ (is_settled_at o ≡ false) in
          subst P (sym (changed.blocks z differs)) (λ u. (h.unsettled z).0 (g.unsettled.0 u), λ s. g.unsettled.1 ((h.unsettled z).1 s))
    ];
    unknown = λ z e. elim (cases_eq z slot) [
      | inl same ↦ let P : ℕ → Type 0 = λ x. info_at a x ≡ None → level_of_slot K x ≡ None in subst P (sym same) (λ f. status.level ∙ sym (level_unknown rack draining multi (block_at a slot) f)) e
      | inr differs ↦ (others z differs).level ∙ h.unknown z (sym (ap (λ o. option_and_then (λ (b : Block). b.info) o) (changed.blocks z differs)) ∙ e)
    ];
  }

  pub levels_where : AreLevelsBy rack draining multi old → AreLevelsBy rack draining multi (record { arena = a; level_index = K })
  levels_where h z = elim (cases_eq z slot) [
    | inl same ↦ let P : ℕ → Type 0 = λ x. level_of_slot K x ≡ level_by rack draining multi (block_at a x) in subst P (sym same) status.level
    | inr differs ↦ (others z differs).level ∙ h z ∙ sym (ap (level_by rack draining multi) (changed.blocks z differs))
  ]

-- levels and statuses after the slot is classified, by one cluster
module _ (C : Cluster) (old : Leveled) (a : Contents) (K : IndexedLevels) (slot : ℕ) (changed : IsChangedAt old.arena a slot)
    (status : IsClassified (rack_of C) (is_draining C) (is_multi_rack C) (block_at a slot) K slot)
    (others : (other : ℕ) → other ≢ slot → IsSameAt old.level_index K other) where
  pub leveled_after : IsLeveled old → ((bound : ℕ) → HasCapacityFor old.level_index bound → HasCapacityFor K bound) → IsLeveled (record { arena = a; level_index = K })
  leveled_after = leveled_where (rack_of C) (is_draining C) (is_multi_rack C) old a K slot changed status others

  pub levels_after : AreLevels C old → AreLevels C (record { arena = a; level_index = K })
  levels_after = levels_where (rack_of C) (is_draining C) (is_multi_rack C) old a K slot changed status others
