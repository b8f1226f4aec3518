-- A new entry keeps the invariant and all levels; once dropped, slots and numbers are as before.
use Rattle.std.specs.Prelude.{◌≡◌, ◌↔◌, ℕ, ◌+◌, ◌<◌, true, false, ◌==◌, if◌then◌else◌, Option, Some, None, IsSome, option_and_then}
use Rattle.std.proofs.Common.{refl, sym, ap, subst, ◌∙◌, arith, inl, inr}
use Rattle.std.proofs.lemmas.Bool.{cases_eq, ne_eqb, eq-eqb, true≢false}
use Rattle.bm_base.specs.Words.{Cluster, rack_of, is_draining, is_multi_rack}
use Rattle.bm_arena.specs.Triplets.{Block}
use Rattle.bm_arena.specs.Contents.{Contents, block_at, slot_of, marks_at, find_marks, IsAdded, IsLawful}
use Rattle.bm_arena.proofs.HeldReplicas.{same_replicas, same_blocks}
use Rattle.bm_arena.specs.HeldMaps.{replicas_of, blocks_of, info_at}
use Rattle.bm_levels.specs.Status.{level_in, is_settled_at}
use Rattle.bm_levels.specs.IndexedLevels.{IndexedLevels, IsUnsettled, HasCapacityFor, IsSameAt}
use Rattle.bm_levels.specs.LeveledBlocks.{Leveled, IsLeveled, AreLevels}
use Rattle.bm_levels.proofs.StatusByCounts.{level_unknown}

-- capacity for the slots below a bound is capacity for each of them
pub capacity_below : (K : IndexedLevels) (bound slot : ℕ) → HasCapacityFor K bound → slot < bound → HasCapacityFor K (slot + 1)
capacity_below K bound slot h lt = (omega (arith, h.0, lt), omega (arith, h.1, lt))

-- all slots hold the same blocks, with the same status
module _ (old : Leveled) (a : Contents) (K : IndexedLevels) (blocks : (slot : ℕ) → block_at a slot ≡ block_at old.arena slot) (delimiter : a.delimiter ≡ old.arena.delimiter)
    (same : (slot : ℕ) → IsSameAt old.level_index K slot) where
  marker : block_at a a.delimiter ≡ block_at old.arena old.arena.delimiter
  marker = ap (block_at a) delimiter ∙ blocks old.arena.delimiter

  pub leveled_same : IsLeveled old → ((bound : ℕ) → HasCapacityFor old.level_index bound → HasCapacityFor K bound) → IsLeveled (record { arena = a; level_index = K })
  leveled_same h capacity = record {
    free = λ s. ap (λ o. option_and_then (λ (b : Block). find_marks b.replicas s) o) marker ∙ h.free s;
    blank = ap (λ o. option_and_then (λ (b : Block). b.info) o) marker ∙ h.blank;
    capacity = λ z there. let P : Option Block → Type 0 = λ o. IsSome o in capacity (z + 1) (h.capacity z (subst P (blocks z) there));
    unsettled = λ z.
        let P : Option Block → Type 0 = λ o. IsUnsettled K z ↔ (is_settled_at o ≡ false) in
        subst P (sym (blocks z)) (λ u. (h.unsettled z).0 ((same z).unsettled.0 u), λ s. (same z).unsettled.1 ((h.unsettled z).1 s));
    unknown = λ z e. (same z).level ∙ h.unknown z (sym (ap (λ o. option_and_then (λ (b : Block). b.info) o) (blocks z)) ∙ e);
  }

  pub levels_same : (C : Cluster) → AreLevels C old → AreLevels C (record { arena = a; level_index = K })
  levels_same C h z = (same z).level ∙ h z ∙ sym (ap (level_in C) (blocks z))

-- a number gets a new entry
module _ (old : Leveled) (a : Contents) (K : IndexedLevels) (id slot : ℕ) (lawful : IsLawful old.arena) (added : IsAdded old.arena a id slot) (same : (z : ℕ) → IsSameAt old.level_index K z) where
  unknown_at : info_at a slot ≡ None
  unknown_at = ap (λ o. option_and_then (λ (b : Block). b.info) o) added.entry

  was_unknown : info_at old.arena slot ≡ None
  was_unknown = ap (λ o. option_and_then (λ (b : Block). b.info) o) added.vacant

  settled_new : is_settled_at (block_at a slot) ≡ true
  unfolding is_settled_at
  settled_new = ap is_settled_at added.entry

  settled_old : is_settled_at (block_at old.arena slot) ≡ true
  unfolding is_settled_at
  settled_old = ap is_settled_at added.vacant

  mark : block_at a a.delimiter ≡ block_at old.arena old.arena.delimiter
  mark = ap (block_at a) added.delimiter ∙ added.others old.arena.delimiter (λ e. added.marked (sym e))

  pub leveled_added : IsLeveled old → ((z : ℕ) → IsSome (block_at a z) → HasCapacityFor K (z + 1)) → IsLeveled (record { arena = a; level_index = K })
  leveled_added h capacity = record {
    free = λ s. ap (λ o. option_and_then (λ (b : Block). find_marks b.replicas s) o) mark ∙ h.free s;
    blank = ap (λ o. option_and_then (λ (b : Block). b.info) o) mark ∙ h.blank;
    capacity = capacity;
    unsettled = λ z. elim (cases_eq z slot) [
      | inl here ↦
          let P : ℕ → Type 0 = λ x. IsUnsettled K x ↔ (is_settled_at (block_at a x) ≡ false) in
          subst P (sym here) (λ u. absurd (true≢false (sym settled_old ∙ (h.unsettled slot).0 ((same slot).unsettled.0 u))), λ s. absurd (true≢false (sym settled_new ∙ s)))
      | inr differs ↦
          let P : Option Block → Type 0 = λ o. IsUnsettled K z ↔ (is_settled_at o ≡ false) in
          subst P (sym (added.others z differs)) (λ u. (h.unsettled z).0 ((same z).unsettled.0 u), λ s. (same z).unsettled.1 ((h.unsettled z).1 s))
    ];
    unknown = λ z e. elim (cases_eq z slot) [
      | inl here ↦ (same z).level ∙ h.unknown z (ap (info_at old.arena) here ∙ was_unknown)
      | inr differs ↦ (same z).level ∙ h.unknown z (sym (ap (λ o. option_and_then (λ (b : Block). b.info) o) (added.others z differs)) ∙ e)
    ];
  }

  pub levels_added : (C : Cluster) → AreLevels C old → AreLevels C (record { arena = a; level_index = K })
  levels_added C h z = elim (cases_eq z slot) [
    | inl here ↦
        (same z).level ∙ h z ∙ sym (level_unknown (rack_of C) (is_draining C) (is_multi_rack C) (block_at old.arena z) (ap (info_at old.arena) here ∙ was_unknown))
        ∙ level_unknown (rack_of C) (is_draining C) (is_multi_rack C) (block_at a z) (ap (info_at a) here ∙ unknown_at)
    | inr differs ↦ (same z).level ∙ h z ∙ sym (ap (level_in C) (added.others z differs))
  ]

  -- the new entry is dropped again
  module _ (c : Contents) (entries : (other : ℕ) → block_at c other ≡ (if other == slot then None else block_at a other)) where
    pub dropped_again : (z : ℕ) → block_at c z ≡ block_at old.arena z
    dropped_again z = elim (cases_eq z slot) [
      | inl here ↦ entries z ∙ ap (λ b. if b then None else block_at a z) (eq-eqb z slot here) ∙ sym (ap (block_at old.arena) here ∙ added.vacant)
      | inr differs ↦ entries z ∙ ap (λ b. if b then None else block_at a z) (ne_eqb z slot differs) ∙ added.others z differs
    ]

    pub numbers_again : slot_of old.arena id ≡ None → ((other : ℕ) → slot_of c other ≡ (if id == other then None else slot_of a other)) → (b : ℕ) → slot_of c b ≡ slot_of old.arena b
    numbers_again none numbers b = elim (cases_eq b id) [
      | inl same ↦ numbers b ∙ ap (λ x. if x then None else slot_of a b) (eq-eqb id b (sym same)) ∙ sym (ap (slot_of old.arena) same ∙ none)
      | inr differs ↦
          numbers b ∙ ap (λ x. if x then None else slot_of a b) (ne_eqb id b (λ e. differs (sym e)))
          ∙ added.found b ∙ ap (λ x. if x then Some slot else slot_of old.arena b) (ne_eqb b id differs)
    ]

-- arenas with the same numbers and blocks hold the same
pub blocks_again : (a c : Contents) → ((z : ℕ) → block_at c z ≡ block_at a z) → ((b : ℕ) → slot_of c b ≡ slot_of a b) → blocks_of c ≡ blocks_of a
blocks_again a c blocks numbers = same_blocks a c (λ b. ap (λ o. option_and_then (λ x. option_and_then (λ (k : Block). k.info) (block_at c x)) o) (numbers b) ∙ by (slot_of a b))
  where
    by : (o : Option ℕ) → option_and_then (λ x. option_and_then (λ (k : Block). k.info) (block_at c x)) o ≡ option_and_then (λ x. option_and_then (λ (k : Block). k.info) (block_at a x)) o
    by None = refl
    by (Some x) = ap (λ o. option_and_then (λ (k : Block). k.info) o) (blocks x)

pub replicas_again : (a c : Contents) → ((z : ℕ) → block_at c z ≡ block_at a z) → ((b : ℕ) → slot_of c b ≡ slot_of a b) → replicas_of c ≡ replicas_of a
replicas_again a c blocks numbers = same_replicas a c (λ q. ap (λ o. option_and_then (λ x. marks_at c x q.storage) o) (numbers q.block) ∙ by q.storage (slot_of a q.block))
  where
    by : (s : ℕ) (o : Option ℕ) → option_and_then (λ x. marks_at c x s) o ≡ option_and_then (λ x. marks_at a x s) o
    by s None = refl
    by s (Some x) = ap (λ o. option_and_then (λ (k : Block). find_marks k.replicas s) o) (blocks x)
