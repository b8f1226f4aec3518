-- If each slot whose replicas changed is reclassified, the invariant and the levels hold again.
use Rattle.std.specs.Prelude.{◌≡◌, ◌≢◌, ◌↔◌, ℕ, ◌+◌, Bool, true, false, List, [], ◌∷◌, Option, Some, None, IsSome, is_some, option_and_then}
use Rattle.std.proofs.Common.{refl, sym, ap, subst, ◌∙◌, inl, inr, ◌⊎◌, cond}
use Rattle.std.proofs.lemmas.Bool.{cases_eq, eq-eqb, true≢false}
use Rattle.bm_base.specs.declared.replica.Marks.{Marks}
use Rattle.bm_base.specs.Words.{Cluster, rack_of, is_draining, is_multi_rack}
use Rattle.bm_arena.specs.Triplets.{Block}
use Rattle.bm_arena.specs.Contents.{Contents, block_at, marks_at, find_marks, known_of}
use Rattle.bm_arena.specs.HeldMaps.{info_at}
use Rattle.bm_levels.specs.Status.{level_by, is_settled_at}
use Rattle.bm_levels.specs.IndexedLevels.{IndexedLevels, level_of_slot, IsUnsettled, HasCapacityFor, IsClassified, IsSameAt}
use Rattle.bm_levels.specs.LeveledBlocks.{Leveled, IsLeveled, AreLevels}
use Rattle.bm_levels.specs.LevelsBy.{AreLevelsBy}
use Rattle.bm_levels.proofs.StatusByCounts.{level_unknown}
use Rattle.bm_arena.proofs.HeldReplicas.{info_known}

pub no_replicas : (rs : List (ℕ × Marks)) → ((t : ℕ) → find_marks rs t ≡ None) → rs ≡ []
no_replicas [] h = refl
no_replicas (r ∷ rs) h = absurd (sure (sym (ap (λ b. cond b (Some r.1) (find_marks rs r.0)) (eq-eqb r.0 r.0 refl)) ∙ h r.0))
  where
    sure : {m : Marks} → Some m ≡ None → ⊥
    sure e = cc

-- an entry with neither a block nor a replica is settled
pub marker_settled : (o : Option Block) → ((t : ℕ) → option_and_then (λ (b : Block). find_marks b.replicas t) o ≡ None) → option_and_then (λ (b : Block). b.info) o ≡ None → is_settled_at o ≡ true
unfolding is_settled_at
marker_settled None free blank = refl
marker_settled (Some b) free blank = rw (no_replicas b.replicas free, blank) refl

known_there : (o p : Option Block) → known_of o ≡ known_of p → IsSome o → IsSome p
known_there o p e there = sym (by p) ∙ ap is_some (sym e) ∙ by o ∙ there
  where
    by : (o : Option Block) → is_some (known_of o) ≡ is_some o
    by None = refl
    by (Some b) = refl

module _ (rack : ℕ → Option ℕ) (draining : ℕ → Bool) (multi : Bool) (old : Leveled) (a : Contents) (K : IndexedLevels) (delimiter : a.delimiter ≡ old.arena.delimiter)
    (free : (t : ℕ) → marks_at a a.delimiter t ≡ marks_at old.arena old.arena.delimiter t)
    (known : (slot : ℕ) → known_of (block_at a slot) ≡ known_of (block_at old.arena slot))
    (each : (slot : ℕ) → slot ≢ old.arena.delimiter → (IsClassified rack draining multi (block_at a slot) K slot) ⊎ ((block_at a slot ≡ block_at old.arena slot) × IsSameAt old.level_index K slot))
    (mark : IsSameAt old.level_index K old.arena.delimiter) where
  same_info : (slot : ℕ) → info_at a slot ≡ info_at old.arena slot
  same_info slot = info_known (block_at a slot) (block_at old.arena slot) (known slot)

  pub leveled_many : IsLeveled old → ((bound : ℕ) → HasCapacityFor old.level_index bound → HasCapacityFor K bound) → IsLeveled (record { arena = a; level_index = K })
  leveled_many h capacity =
      let free_now : (t : ℕ) → marks_at a old.arena.delimiter t ≡ None = λ t. sym (ap (λ d. marks_at a d t) delimiter) ∙ free t ∙ h.free t in
      let blank_now : info_at a old.arena.delimiter ≡ None = same_info old.arena.delimiter ∙ h.blank in
      let now_settled = marker_settled (block_at a old.arena.delimiter) free_now blank_now in
      let was_settled = marker_settled (block_at old.arena old.arena.delimiter) h.free h.blank in
      record {
        free = λ t. free t ∙ h.free t;
        blank = ap (info_at a) delimiter ∙ blank_now;
        capacity = λ z there. capacity (z + 1) (h.capacity z (known_there (block_at a z) (block_at old.arena z) (known z) there));
        unsettled = λ z. elim (cases_eq z old.arena.delimiter) [
          | inl same ↦
              let P : ℕ → Type 0 = λ x. IsUnsettled K x ↔ (is_settled_at (block_at a x) ≡ false) in
              subst P (sym same) (λ u. absurd (true≢false (sym was_settled ∙ (h.unsettled old.arena.delimiter).0 (mark.unsettled.0 u))), λ s. absurd (true≢false (sym now_settled ∙ s)))
          | inr differs ↦ elim (each z differs) [
            | inl status ↦ status.unsettled
            | inr g ↦
                let P : Option Block → Type 0 = λ o. IsUnsettled K z ↔ (is_settled_at o ≡ false) in
                subst P (sym g.0) (λ u. (h.unsettled z).0 (g.1.unsettled.0 u), λ s. g.1.unsettled.1 ((h.unsettled z).1 s))
          ]
        ];
        unknown = λ z e. elim (cases_eq z old.arena.delimiter) [
          | inl same ↦ let P : ℕ → Type 0 = λ x. level_of_slot K x ≡ None in subst P (sym same) (mark.level ∙ h.unknown old.arena.delimiter h.blank)
          | inr differs ↦ elim (each z differs) [
            | inl status ↦ status.level ∙ sym (level_unknown rack draining multi (block_at a z) e)
            | inr g ↦ g.1.level ∙ h.unknown z (sym (same_info z) ∙ e)
          ]
        ];
      }

  pub levels_many : IsLeveled old → AreLevelsBy rack draining multi old → AreLevelsBy rack draining multi (record { arena = a; level_index = K })
  levels_many i h z = elim (cases_eq z old.arena.delimiter) [
    | inl same ↦
        let P : ℕ → Type 0 = λ x. level_of_slot K x ≡ level_by rack draining multi (block_at a x) in
        subst P (sym same)
        (mark.level ∙ i.unknown old.arena.delimiter i.blank ∙ level_unknown rack draining multi (block_at a old.arena.delimiter) (same_info old.arena.delimiter ∙ i.blank))
    | inr differs ↦ elim (each z differs) [ inl status ↦ status.level | inr g ↦ g.1.level ∙ h z ∙ sym (ap (level_by rack draining multi) g.0) ]
  ]

-- levels and statuses after the slots are classified, by one cluster
module _ (C : Cluster) (old : Leveled) (a : Contents) (K : IndexedLevels) (delimiter : a.delimiter ≡ old.arena.delimiter)
    (free : (t : ℕ) → marks_at a a.delimiter t ≡ marks_at old.arena old.arena.delimiter t)
    (known : (slot : ℕ) → known_of (block_at a slot) ≡ known_of (block_at old.arena slot))
    (each : (slot : ℕ) → slot ≢ old.arena.delimiter → (IsClassified (rack_of C) (is_draining C) (is_multi_rack C) (block_at a slot) K slot) ⊎ ((block_at a slot ≡ block_at old.arena slot) × IsSameAt old.level_index K slot))
    (mark : IsSameAt old.level_index K old.arena.delimiter) where
  pub leveled_reported : IsLeveled old → ((bound : ℕ) → HasCapacityFor old.level_index bound → HasCapacityFor K bound) → IsLeveled (record { arena = a; level_index = K })
  leveled_reported = leveled_many (rack_of C) (is_draining C) (is_multi_rack C) old a K delimiter free known each mark

  pub levels_reported : IsLeveled old → AreLevels C old → AreLevels C (record { arena = a; level_index = K })
  levels_reported = levels_many (rack_of C) (is_draining C) (is_multi_rack C) old a K delimiter free known each mark
