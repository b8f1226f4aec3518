-- An empty arena with no levels and no unsettled slots keeps the invariant, in any cluster.
use Rattle.std.specs.Prelude.{◌≡◌, ◌≢◌, ℕ, ◌+◌, IsSome, true, Option, Some, None, option_and_then}
use Rattle.std.proofs.Common.{sym, ap, subst, ◌∙◌, inl, inr}
use Rattle.std.proofs.lemmas.Bool.{cases_eq, true≢false, false≢true}
use Rattle.bm_base.specs.Words.{Cluster, rack_of, is_draining, is_multi_rack}
use Rattle.bm_arena.specs.Triplets.{Block}
use Rattle.bm_arena.specs.Contents.{Contents, block_at, find_marks, empty_block}
use Rattle.bm_arena.specs.HeldMaps.{info_at}
use Rattle.bm_levels.specs.Status.{is_settled_at}
use Rattle.bm_levels.specs.IndexedLevels.{IndexedLevels, level_of_slot, IsUnsettled, HasCapacityFor}
use Rattle.bm_levels.specs.LeveledBlocks.{IsLeveled, AreLevels}
use Rattle.bm_levels.proofs.StatusByCounts.{level_unknown}

module _ (a : Contents) (K : IndexedLevels) (vacant : (slot : ℕ) → slot ≢ a.delimiter → block_at a slot ≡ None) (marker : block_at a a.delimiter ≡ Some (empty_block 0))
    (levels : (slot : ℕ) → level_of_slot K slot ≡ None) (settled : (slot : ℕ) → IsUnsettled K slot → ⊥) where
  unknown : (slot : ℕ) → info_at a slot ≡ None
  unknown slot = elim (cases_eq slot a.delimiter) [
    | inl same ↦ ap (info_at a) same ∙ ap (λ o. option_and_then (λ (b : Block). b.info) o) marker
    | inr differs ↦ ap (λ o. option_and_then (λ (b : Block). b.info) o) (vacant slot differs)
  ]

  all_settled : (slot : ℕ) → is_settled_at (block_at a slot) ≡ true
  unfolding is_settled_at
  all_settled slot = elim (cases_eq slot a.delimiter) [
    | inl same ↦ ap (λ x. is_settled_at (block_at a x)) same ∙ ap is_settled_at marker
    | inr differs ↦ ap is_settled_at (vacant slot differs)
  ]

  pub leveled_new : HasCapacityFor K (a.delimiter + 1) → IsLeveled (record { arena = a; level_index = K })
  leveled_new capacity = record {
    free = λ s. ap (λ o. option_and_then (λ (b : Block). find_marks b.replicas s) o) marker;
    blank = unknown a.delimiter;
    capacity = λ slot there. elim (cases_eq slot a.delimiter) [
      | inl same ↦ let P : ℕ → Type 0 = λ x. HasCapacityFor K (x + 1) in subst P (sym same) capacity
      | inr differs ↦ let P : Option Block → Type 0 = λ o. IsSome o in absurd (false≢true (subst P (vacant slot differs) there))
    ];
    unsettled = λ slot. (λ u. absurd (settled slot u), λ s. absurd (true≢false (sym (all_settled slot) ∙ s)));
    unknown = λ slot _. levels slot;
  }

  pub levels_new : (C : Cluster) → AreLevels C (record { arena = a; level_index = K })
  levels_new C slot = levels slot ∙ level_unknown (rack_of C) (is_draining C) (is_multi_rack C) (block_at a slot) (unknown slot)
