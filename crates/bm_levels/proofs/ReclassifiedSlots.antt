-- While blocks stay, reclassifying each slot whose level changes makes all levels right again.
use Rattle.std.specs.Prelude.{◌≡◌, ℕ, ◌+◌, Bool, true, false, Option, Some, None, IsSome, List, [], ◌∷◌, map, nat_eq, slice_get, suc, option_and_then}
use Rattle.std.specs.Map.{lookup}
use Rattle.std.specs.Cmp.{nat_eq_equiv}
use Rattle.std.proofs.Common.{cond, refl, sym, ap, ◌∙◌, inl, inr, ◌⊎◌}
use Rattle.std.proofs.lemmas.Bool.{cases_eq}
use Rattle.std.proofs.lemmas.Option.{same_Some}
use Rattle.std.proofs.lemmas.Map.Entries.{lookup_from_place}
use Rattle.bm_base.specs.Words.{Cluster, rack_of, is_draining, is_multi_rack}
use Rattle.bm_maps.specs.SlotLists.{IsMember}
use Rattle.bm_maps.proofs.SlotLists.{dec_among}
use Rattle.bm_arena.specs.Triplets.{Block}
use Rattle.bm_arena.specs.Contents.{Contents, block_at, IsLawful}
use Rattle.bm_arena.specs.HeldMaps.{info_at}
use Rattle.bm_levels.specs.Status.{drains_after_change, level_by}
use Rattle.bm_levels.specs.IndexedLevels.{IndexedLevels, HasCapacityFor, IsClassified, IsSameAt, indexed_slots}
use Rattle.bm_levels.specs.LeveledBlocks.{Leveled, IsLeveled, AreLevels}
use Rattle.bm_levels.specs.LevelsBy.{AreLevelsBy}
use Rattle.bm_levels.proofs.StatusByCounts.{level_unknown}
use Rattle.bm_levels.proofs.OneSlot.{held_by}

module _ (rack : ℕ → Option ℕ) (draining : ℕ → Bool) (multi : Bool) (old : Leveled) (K : IndexedLevels) where
  -- the invariant holds again
  pub leveled_again : ((slot : ℕ) → IsClassified rack draining multi (block_at old.arena slot) K slot ⊎ IsSameAt old.level_index K slot) → IsLeveled old → ((bound : ℕ) → HasCapacityFor old.level_index bound → HasCapacityFor K bound)
      → IsLeveled (record { arena = old.arena; level_index = K })
  leveled_again each h capacity = record {
    free = h.free;
    blank = h.blank;
    capacity = λ z there. capacity (z + 1) (h.capacity z there);
    unsettled = λ z. elim (each z) [ inl status ↦ status.unsettled | inr same ↦ (λ u. (h.unsettled z).0 (same.unsettled.0 u), λ s. same.unsettled.1 ((h.unsettled z).1 s)) ];
    unknown = λ z e. elim (each z) [ inl status ↦ status.level ∙ sym (level_unknown rack draining multi (block_at old.arena z) e) | inr same ↦ same.level ∙ h.unknown z e ];
  }

  -- each slot is reclassified, or its level does not depend on the change
  pub levels_again : (rack' : ℕ → Option ℕ) (draining' : ℕ → Bool) (multi' : Bool)
      → ((slot : ℕ) → IsClassified rack draining multi (block_at old.arena slot) K slot ⊎ (IsSameAt old.level_index K slot × (level_by rack' draining' multi' (block_at old.arena slot) ≡ level_by rack draining multi (block_at old.arena slot))))
      → AreLevelsBy rack' draining' multi' old → AreLevelsBy rack draining multi (record { arena = old.arena; level_index = K })
  levels_again rack' draining' multi' each h slot = elim (each slot) [ inl status ↦ status.level | inr same ↦ same.0.level ∙ h slot ∙ same.1 ]

-- the slot of a number is one of the slots to which numbers lead
led_among : (ps : List (ℕ × ℕ)) (id slot : ℕ) → lookup (nat_eq id) ps ≡ Some slot → IsMember slot (map (λ (p : ℕ × ℕ). p.1) ps)
led_among [] id slot e = cc
led_among (p ∷ ps) id slot e = by (nat_eq id p.0) e (λ later. led_among ps id slot later)
  where
    by : (b : Bool) → cond b (Some p.1) (lookup (nat_eq id) ps) ≡ Some slot → (lookup (nat_eq id) ps ≡ Some slot → IsMember slot (map (λ (q : ℕ × ℕ). q.1) ps)) → IsMember slot (map (λ (q : ℕ × ℕ). q.1) (p ∷ ps))
    by true e rest = inl (same_Some slot p.1 (sym e))
    by false e rest = inr (rest e)

led_place : (ps : List (ℕ × ℕ)) (slot : ℕ) → IsMember slot (map (λ (p : ℕ × ℕ). p.1) ps) → (i : ℕ) × (id : ℕ) × (slice_get ps i ≡ Some (id, slot))
led_place [] slot h = absurd h
led_place (p ∷ ps) slot (inl same) = (0, p.0, ap (λ x. Some (p.0, x)) (sym same))
led_place (p ∷ ps) slot (inr later) = let k = led_place ps slot later in (suc k.0, k.1, k.2)

-- each slot to which a number leads holds a block
pub led_held : (a : Contents) → IsLawful a → (slot : ℕ) → IsMember slot (indexed_slots a) → IsSome (block_at a slot)
led_held a lawful slot there =
    let k = led_place a.ids slot there in
    held_by a slot (lawful.found k.1 slot (lookup_from_place nat_eq_equiv a.ids k.0 k.1 slot lawful.each k.2))

-- no other slot has a known block
pub led_unless : (v : Leveled) → IsLawful v.arena → IsLeveled v → (slot : ℕ) → (IsMember slot (indexed_slots v.arena) → ⊥) → info_at v.arena slot ≡ None
led_unless v lawful h slot absent = elim (cases_eq slot v.arena.delimiter) [
  | inl same ↦ ap (info_at v.arena) same ∙ h.blank
  | inr differs ↦ by differs (block_at v.arena slot) refl
]
  where
    by : (slot ≡ v.arena.delimiter → ⊥) → (o : Option Block) → block_at v.arena slot ≡ o → option_and_then (λ (b : Block). b.info) (block_at v.arena slot) ≡ None
    by differs None e = ap (option_and_then (λ (b : Block). b.info)) e
    by differs (Some k) e = absurd (absent (led_among v.arena.ids k.id slot (lawful.known slot k e differs)))

-- all slots to which numbers lead are reclassified, for a given answer to whether the alive nodes
-- are on two racks or more
module _ (C : Cluster) (multi : Bool) (old : Leveled) (K : IndexedLevels)
    (status : (slot : ℕ) → IsMember slot (indexed_slots old.arena) → IsClassified (rack_of C) (drains_after_change C None) multi (block_at old.arena slot) K slot)
    (others : (slot : ℕ) → (IsMember slot (indexed_slots old.arena) → ⊥) → IsSameAt old.level_index K slot) where
  pub leveled_each : IsLeveled old → ((bound : ℕ) → HasCapacityFor old.level_index bound → HasCapacityFor K bound) → IsLeveled (record { arena = old.arena; level_index = K })
  leveled_each = leveled_again (rack_of C) (drains_after_change C None) multi old K (λ slot. elim (dec_among slot (indexed_slots old.arena)) [ inl there ↦ inl (status slot there) | inr absent ↦ inr (others slot absent) ])

  pub levels_each : IsLawful old.arena → IsLeveled old → AreLevels C old → AreLevelsBy (rack_of C) (is_draining C) multi (record { arena = old.arena; level_index = K })
  unfolding drains_after_change
  levels_each lawful h =
      levels_again (rack_of C) (is_draining C) multi old K (rack_of C) (is_draining C) (is_multi_rack C) (λ slot.
      elim (dec_among slot (indexed_slots old.arena)) [
        | inl there ↦ inl (status slot there)
        | inr absent ↦
            let none = led_unless old lawful h slot absent in
            inr (others slot absent, sym (level_unknown (rack_of C) (is_draining C) (is_multi_rack C) (block_at old.arena slot) none) ∙ level_unknown (rack_of C) (is_draining C) multi (block_at old.arena slot) none)
      ])
