-- A report that was prepared, and maybe aborted, leaves the invariant and all levels as they were.
use Rattle.std.specs.Prelude.{◌≡◌, ◌≢◌, ℕ, ◌+◌, Bool, true, false, not, ◌&&◌, ◌==◌, if◌then◌else◌, List, [], ◌∷◌, length, Option, Some, None, IsSome, IsSomeAnd, IsTrue, is_some, option_and_then}
use Rattle.std.specs.Option.{option_map_or}
use Rattle.std.proofs.Common.{refl, sym, ap, subst, ◌∙◌, inl, inr, ◌⊎◌, arith}
use Rattle.std.proofs.lemmas.Bool.{cases_eq, eqb-true, true≢false, false≢true}
use Rattle.std.proofs.lemmas.Option.{same_Some}
use Rattle.bm_base.specs.declared.replica.Marks.{Marks}
use Rattle.bm_base.specs.declared.replica.BlockInfo.{BlockInfo}
use Rattle.bm_base.specs.Words.{Cluster, replica_at, get, rack_of, is_draining, is_multi_rack}
use Rattle.bm_arena.specs.Triplets.{Block}
use Rattle.bm_arena.specs.Contents.{Contents, block_at, slot_of, marks_at, find_marks, entry_capacity, with_entry_capacity, IsLawful}
use Rattle.bm_arena.specs.HeldMaps.{info_at}
use Rattle.bm_arena.proofs.HeldReplicas.{info_in, replica_in, get-replicas_of, get-blocks_of}
use Rattle.bm_report.specs.ReportedBlocks.{IsPrepared}
use Rattle.bm_report.specs.AbortedReport.{is_unused_block, is_unused_number}
use Rattle.bm_report.proofs.Maps.{get-here}
use Rattle.bm_levels.specs.UnusedEntries.{IsUnused}
use Rattle.bm_levels.specs.Status.{level_in, level_by, is_settled_at}
use Rattle.bm_levels.specs.IndexedLevels.{IndexedLevels, HasCapacityFor, KeepsCapacity, IsSameAt}
use Rattle.bm_levels.specs.LeveledBlocks.{Leveled, IsLeveled, AreLevels}
use Rattle.bm_levels.proofs.StatusByCounts.{level_unknown}
use Rattle.bm_levels.proofs.ManySlots.{no_replicas, marker_settled}
use Rattle.bm_base.proofs.ListTests.{and_second}

-- a slot has no known block and no replica
pub record IsUnusedAt (o : Option Block) : Type 0 where
  pub info : option_and_then (λ (b : Block). b.info) o ≡ None
  pub marks : (t : ℕ) → option_and_then (λ (b : Block). find_marks b.replicas t) o ≡ None

-- two slots hold the same but for capacity, or both hold nothing
abbrev pub AreAlike : Option Block → Option Block → Type 0
AreAlike o p = ((k : Block) × (capacity : ℕ) × (p ≡ Some k) × (o ≡ Some (with_entry_capacity capacity k))) ⊎ (IsUnusedAt o × IsUnusedAt p)

pub none_unused : (o : Option Block) → o ≡ None → IsUnusedAt o
none_unused o e = record { info = ap (λ x. option_and_then (λ (b : Block). b.info) x) e; marks = λ t. ap (λ x. option_and_then (λ (b : Block). find_marks b.replicas t) x) e }

alike_info : (o p : Option Block) → AreAlike o p → option_and_then (λ (b : Block). b.info) o ≡ option_and_then (λ (b : Block). b.info) p
alike_info o p (inl h) = ap (λ x. option_and_then (λ (b : Block). b.info) x) h.3 ∙ sym (ap (λ x. option_and_then (λ (b : Block). b.info) x) h.2)
alike_info o p (inr h) = h.0.info ∙ sym h.1.info

alike_settled : (o p : Option Block) → AreAlike o p → is_settled_at o ≡ is_settled_at p
unfolding is_settled_at
alike_settled o p (inl h) = ap is_settled_at h.3 ∙ sym (ap is_settled_at h.2)
alike_settled o p (inr h) = marker_settled o h.0.marks h.0.info ∙ sym (marker_settled p h.1.marks h.1.info)

alike_level : (C : Cluster) (o p : Option Block) → AreAlike o p → level_in C o ≡ level_in C p
unfolding level_by
alike_level C o p (inl h) = ap (level_in C) h.3 ∙ sym (ap (level_in C) h.2)
alike_level C o p (inr h) = sym (level_unknown (rack_of C) (is_draining C) (is_multi_rack C) o h.0.info) ∙ level_unknown (rack_of C) (is_draining C) (is_multi_rack C) p h.1.info

alike_marks : (o p : Option Block) (t : ℕ) → AreAlike o p → option_and_then (λ (b : Block). find_marks b.replicas t) o ≡ option_and_then (λ (b : Block). find_marks b.replicas t) p
alike_marks o p t (inl h) = ap (λ x. option_and_then (λ (b : Block). find_marks b.replicas t) x) h.3 ∙ sym (ap (λ x. option_and_then (λ (b : Block). find_marks b.replicas t) x) h.2)
alike_marks o p t (inr h) = h.0.marks t ∙ sym (h.1.marks t)

module _ (old : Leveled) (a : Contents) (K : IndexedLevels) (alike : (slot : ℕ) → AreAlike (block_at a slot) (block_at old.arena slot)) (delimiter : a.delimiter ≡ old.arena.delimiter) (same : (slot : ℕ) → IsSameAt old.level_index K slot) where
  pub leveled_alike : IsLeveled old → ((z : ℕ) → IsSome (block_at a z) → HasCapacityFor K (z + 1)) → IsLeveled (record { arena = a; level_index = K })
  leveled_alike h capacity = record {
    free = λ s. ap (λ d. marks_at a d s) delimiter ∙ alike_marks (block_at a old.arena.delimiter) (block_at old.arena old.arena.delimiter) s (alike old.arena.delimiter) ∙ h.free s;
    blank = ap (info_at a) delimiter ∙ alike_info (block_at a old.arena.delimiter) (block_at old.arena old.arena.delimiter) (alike old.arena.delimiter) ∙ h.blank;
    capacity = capacity;
    unsettled = λ z.
        let e = alike_settled (block_at a z) (block_at old.arena z) (alike z) in
        (λ u. e ∙ (h.unsettled z).0 ((same z).unsettled.0 u), λ s. (same z).unsettled.1 ((h.unsettled z).1 (sym e ∙ s)));
    unknown = λ z e. (same z).level ∙ h.unknown z (sym (alike_info (block_at a z) (block_at old.arena z) (alike z)) ∙ e);
  }

  pub levels_alike : (C : Cluster) → AreLevels C old → AreLevels C (record { arena = a; level_index = K })
  levels_alike C h z = (same z).level ∙ h z ∙ sym (alike_level C (block_at a z) (block_at old.arena z) (alike z))

-- after preparing, a slot that held an entry is as before but for capacity, and any other slot is
-- empty or has an unused entry
module _ (a c : Contents) (lawful_a : IsLawful a) (lawful_c : IsLawful c) (prepared : IsPrepared a c) where
  held_there : (slot : ℕ) (k : Block) → block_at a slot ≡ Some k → AreAlike (block_at c slot) (block_at a slot)
  held_there slot k e = inl (k, entry_capacity c slot, e, prepared.entries slot k e)

  slot_held : (b slot : ℕ) → slot_of a b ≡ Some slot → block_at a slot ≡ None → ⊥
  slot_held b slot e none = let f = lawful_a.found b slot e in sure (sym f.2 ∙ none)
    where
      sure : {k : Block} → Some k ≡ None → ⊥
      sure e = cc

  new_number : (slot : ℕ) (k : Block) → block_at a slot ≡ None → block_at c slot ≡ Some k → (slot_of c k.id ≡ Some slot) × (slot_of a k.id ≡ None)
  new_number slot k none e =
      let marker : slot ≢ c.delimiter = λ same. not_marker (same ∙ prepared.delimiter) in
      let leads = lawful_c.known slot k e marker in
      (leads, by (slot_of a k.id) refl leads)
    where
      not_marker : slot ≡ a.delimiter → ⊥
      not_marker same = let P : Option Block → Type 0 = λ o. IsSome o in false≢true (subst P (sym (ap (block_at a) same) ∙ none) lawful_a.marker)

      by : (o : Option ℕ) → slot_of a k.id ≡ o → slot_of c k.id ≡ Some slot → slot_of a k.id ≡ None
      by None f leads = f
      by (Some x) f leads =
          let same : x ≡ slot = same_Some _ _ (sym (prepared.slots k.id x f) ∙ leads) in
          absurd (slot_held k.id slot (f ∙ ap (λ y. Some y) same) none)

  vacant_there : (slot : ℕ) → block_at a slot ≡ None → IsUnusedAt (block_at c slot)
  vacant_there slot none = by (block_at c slot) refl
    where
      by : (o : Option Block) → block_at c slot ≡ o → IsUnusedAt (block_at c slot)
      by None e = none_unused (block_at c slot) e
      by (Some k) e =
          let n = new_number slot k none e in
          let info_c : info_at c slot ≡ info_in c k.id = sym (ap (λ o. option_and_then (λ x. info_at c x) o) n.0) in
          let info_a : info_in a k.id ≡ None = ap (λ o. option_and_then (λ x. info_at a x) o) n.1 in
          let marks_c : (t : ℕ) → marks_at c slot t ≡ replica_in c (replica_at k.id t) = λ t. sym (ap (λ o. option_and_then (λ x. marks_at c x t) o) n.0) in
          let marks_a : (t : ℕ) → replica_in a (replica_at k.id t) ≡ None = λ t. ap (λ o. option_and_then (λ x. marks_at a x t) o) n.1 in
          record {
            info = info_c ∙ sym (get-blocks_of c k.id) ∙ ap (λ m. get m k.id) prepared.blocks ∙ get-blocks_of a k.id ∙ info_a;
            marks = λ t. marks_c t ∙ sym (get-replicas_of c (replica_at k.id t)) ∙ ap (λ m. get m (replica_at k.id t)) prepared.replicas ∙ get-replicas_of a (replica_at k.id t) ∙ marks_a t;
          }

  pub alike_ready : (slot : ℕ) → AreAlike (block_at c slot) (block_at a slot)
  alike_ready slot = by (block_at a slot) refl
    where
      by : (o : Option Block) → block_at a slot ≡ o → AreAlike (block_at c slot) (block_at a slot)
      by None e = inr (vacant_there slot e, none_unused (block_at a slot) e)
      by (Some k) e = held_there slot k e

  -- the report is aborted, and names all new numbers
  module _ (d : Contents) (lawful_d : IsLawful d) (named : ℕ → Bool) (delimiter : d.delimiter ≡ c.delimiter) (marker : block_at d d.delimiter ≡ block_at c c.delimiter)
      (numbers : (b : ℕ) → slot_of d b ≡ (if named b && is_unused_number c b then None else slot_of c b)) (entries : (b slot : ℕ) → slot_of d b ≡ Some slot → block_at d slot ≡ block_at c slot)
      (fresh : (b : ℕ) → slot_of a b ≡ None → IsSome (slot_of c b) → named b ≡ true) where
    not_unused : (b : ℕ) (t : Bool) (x : ℕ) → (if t then None else slot_of c b) ≡ Some x → (t ≡ false) × (slot_of c b ≡ Some x)
    not_unused b true x e = cc
    not_unused b false x e = (refl, e)

    unused_parts : (k : Block) → is_unused_block k ≡ true → (k.info ≡ None) × (k.replicas ≡ [])
    unused_parts k e = by k.info k.replicas e
      where
        by : (i : Option BlockInfo) (rs : List (ℕ × Marks)) → (not (is_some i) && (length rs == 0)) ≡ true → (i ≡ None) × (rs ≡ [])
        by None [] f = (refl, refl)
        by None (r ∷ rs) f = absurd (let h = eqb-true (length (r ∷ rs)) 0 f in omega (arith, h))
        by (Some x) rs f = cc

    has_no_replicas : (b slot : ℕ) (k : Block) → slot_of c b ≡ Some slot → block_at c slot ≡ Some k → is_unused_number c b ≡ is_unused_block k
    has_no_replicas b slot k leads e = ap (λ o. option_map_or (λ x. option_map_or is_unused_block (block_at c x) false) o false) leads ∙ ap (λ o. option_map_or is_unused_block o false) e

    at_marker : (slot : ℕ) → slot ≡ d.delimiter → block_at d slot ≡ block_at c slot
    at_marker slot same = ap (block_at d) same ∙ marker ∙ sym (ap (block_at c) (same ∙ delimiter))

    pub alike_again : (slot : ℕ) → AreAlike (block_at d slot) (block_at a slot)
    alike_again slot = elim (cases_eq slot d.delimiter) [
      | inl same ↦ let P : Option Block → Type 0 = λ o. AreAlike o (block_at a slot) in subst P (sym (at_marker slot same)) (alike_ready slot)
      | inr differs ↦ by differs (block_at d slot) refl (block_at a slot) refl
    ]
      where
        gone : slot ≢ d.delimiter → block_at d slot ≡ None → (k : Block) → block_at a slot ≡ Some k → IsUnusedAt (block_at a slot)
        gone differs none k e =
            let now = prepared.entries slot k e in
            let leads = lawful_c.known slot (with_entry_capacity (entry_capacity c slot) k) now (λ same. differs (same ∙ sym delimiter)) in
            case (named k.id && is_unused_number c k.id) refl leads now
          where
            sure : {k : Block} → Some k ≡ None → ⊥
            sure f = cc

            case : (t : Bool) → (named k.id && is_unused_number c k.id) ≡ t → slot_of c k.id ≡ Some slot → block_at c slot ≡ Some (with_entry_capacity (entry_capacity c slot) k) → IsUnusedAt (block_at a slot)
            case true f leads now =
                let parts = unused_parts k (sym (has_no_replicas k.id slot (with_entry_capacity (entry_capacity c slot) k) leads now) ∙ and_second (named k.id) (is_unused_number c k.id) f) in
                record {
                  info = ap (λ x. option_and_then (λ (b : Block). b.info) x) e ∙ parts.0;
                  marks = λ t. ap (λ x. option_and_then (λ (b : Block). find_marks b.replicas t) x) e ∙ ap (λ rs. find_marks rs t) parts.1;
                }
            case false f leads now =
                let still : slot_of d k.id ≡ Some slot = numbers k.id ∙ ap (λ t. if t then None else slot_of c k.id) f ∙ leads in
                absurd (sure (sym now ∙ sym (entries k.id slot still) ∙ none))

        by : slot ≢ d.delimiter → (o : Option Block) → block_at d slot ≡ o → (p : Option Block) → block_at a slot ≡ p → AreAlike (block_at d slot) (block_at a slot)
        by differs (Some k) e p f =
            let P : Option Block → Type 0 = λ o. AreAlike o (block_at a slot) in
            subst P (sym (entries k.id slot (lawful_d.known slot k e differs))) (alike_ready slot)
        by differs None e None f = inr (none_unused (block_at d slot) e, none_unused (block_at a slot) f)
        by differs None e (Some k) f = inr (none_unused (block_at d slot) e, gone differs e k f)

    -- a slot that holds a block after the abort held one before
    pub held_before : (slot : ℕ) → IsSome (block_at d slot) → IsSome (block_at a slot)
    held_before slot there = elim (cases_eq slot d.delimiter) [
      | inl same ↦ let P : ℕ → Type 0 = λ x. IsSome (block_at a x) in subst P (sym (same ∙ delimiter ∙ prepared.delimiter)) lawful_a.marker
      | inr differs ↦ by differs (block_at d slot) refl there
    ]
      where
        was : (b : ℕ) (k : Block) → slot_of d b ≡ Some slot → (o : Option ℕ) → slot_of a b ≡ o → IsSome (block_at a slot)
        was b k e (Some x) f =
            let leads = (not_unused b (named b && is_unused_number c b) slot (sym (numbers b) ∙ e)).1 in
            let same : x ≡ slot = same_Some _ _ (sym (prepared.slots b x f) ∙ leads) in
            let found = lawful_a.found b x f in
            let P : ℕ → Type 0 = λ y. IsSome (block_at a y) in
            subst P same (ap is_some found.2)
        was b k e None f =
            let parts = not_unused b (named b && is_unused_number c b) slot (sym (numbers b) ∙ e) in
            let found = lawful_c.found b slot parts.1 in
            either (block_at a slot) refl parts found
          where
            never : named b ≡ true → is_unused_number c b ≡ true → (named b && is_unused_number c b) ≡ false → ⊥
            never x y z = true≢false (sym ((λ i. x i && y i)) ∙ z)

            either : (o : Option Block) → block_at a slot ≡ o → ((named b && is_unused_number c b) ≡ false) × (slot_of c b ≡ Some slot) → (slot ≢ c.delimiter) × (k : Block) × (block_at c slot ≡ Some k) × (k.id ≡ b) → IsSome (block_at a slot)
            either (Some k) g parts found = ap is_some g
            either None g parts found =
                let unused = vacant_there slot g in
                let info : found.1.info ≡ None = sym (ap (λ x. option_and_then (λ (y : Block). y.info) x) found.2) ∙ unused.info in
                let none : found.1.replicas ≡ [] = no_replicas found.1.replicas (λ t. sym (ap (λ x. option_and_then (λ (y : Block). find_marks y.replicas t) x) found.2) ∙ unused.marks t) in
                let isb : is_unused_number c b ≡ true = has_no_replicas b slot found.1 parts.1 found.2 ∙ (λ i. not (is_some (info i)) && (length (none i) == 0)) in
                absurd (never (fresh b f (ap is_some parts.1)) isb parts.0)

        by : slot ≢ d.delimiter → (o : Option Block) → block_at d slot ≡ o → IsSome (block_at d slot) → IsSome (block_at a slot)
        by differs (Some k) e there = was k.id k (lawful_d.known slot k e differs) (slot_of a k.id) refl
        by differs None e there = absurd (false≢true (sym (ap is_some e) ∙ there))

    -- the invariant and the levels hold again, with capacity for more slots
    module _ (k K : IndexedLevels) (same : (slot : ℕ) → IsSameAt k K slot) where
      pub leveled_again : KeepsCapacity k K → IsLeveled (record { arena = a; level_index = k }) → IsLeveled (record { arena = d; level_index = K })
      leveled_again capacity h = leveled_alike (record { arena = a; level_index = k }) d K alike_again (delimiter ∙ prepared.delimiter) same h (λ z there. capacity (z + 1) (h.capacity z (held_before z there)))

      pub levels_again : (C : Cluster) → AreLevels C (record { arena = a; level_index = k }) → AreLevels C (record { arena = d; level_index = K })
      levels_again = levels_alike (record { arena = a; level_index = k }) d K alike_again (delimiter ∙ prepared.delimiter) same

-- an unused entry has no replica
pub unused_there : (a : Contents) (b slot : ℕ) → IsLawful a → slot_of a b ≡ Some slot → IsUnused a b → IsSomeAnd (block_at a slot) (λ (k : Block). k.replicas ≡ [])
unused_there a b slot lawful at unused =
    let found = lawful.found b slot at in
    let none : found.1.replicas ≡ [] = no_replicas found.1.replicas (λ t. sym (ap (λ x. option_and_then (λ (y : Block). find_marks y.replicas t) x) found.2) ∙ sym (get-here a b slot t at) ∙ unused.empty t) in
    let P : Option Block → Type 0 = λ o. IsSomeAnd o (λ (k : Block). k.replicas ≡ []) in
    subst P (sym found.2) none

-- a number that has a slot is not new
pub none_fresh : (a : Contents) (named : ℕ → Bool) (b : ℕ) → slot_of a b ≡ None → IsSome (slot_of a b) → IsTrue (named b)
none_fresh a named b none some = absurd (let P : Option ℕ → Type 0 = λ o. IsSome o in false≢true (subst P none some))
