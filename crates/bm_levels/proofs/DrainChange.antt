-- When a node's drain begins or ends, classifying the slots on its storages keeps all levels right.
use Rattle.std.specs.Prelude.{◌≡◌, ℕ, Bool, true, false, ◌==◌, if◌then◌else◌, Option, Some, None, IsSome, is_some}
use Rattle.std.specs.Option.{option_map_or}
use Rattle.std.proofs.Common.{cond, refl, sym, ap, subst, ◌∙◌, inl, inr, ◌⊎◌}
use Rattle.bm_base.specs.Words.{get, insert, remove, Cluster, node_of, rack_of, has_storage, drains, is_draining, is_multi_rack, drain, undrain}
use Rattle.bm_base.proofs.MapLaws.{get-insert, get-remove}
use Rattle.bm_base.proofs.Ties.{number_tie}
use Rattle.bm_arena.specs.Contents.{Contents, block_at, marks_at, IsLawful}
use Rattle.bm_levels.specs.declared.classification.DrainChange.{DrainChange}
use Rattle.bm_levels.specs.Status.{drains_after_change, level_by}
use Rattle.bm_levels.specs.IndexedLevels.{IndexedLevels, IsClassified, IsSameAt}
use Rattle.bm_levels.specs.LeveledBlocks.{Leveled, AreLevels}
use Rattle.bm_levels.specs.LevelsBy.{AreLevelsBy, IsOff}
use Rattle.bm_levels.proofs.UpToDate.{level_alike}
use Rattle.bm_levels.proofs.ReclassifiedSlots.{levels_again}

abbrev pub drain_change : ℕ → Bool → DrainChange
drain_change n d = record { node = n; drains = d }

module _ (C : Cluster) (n : ℕ) where
  begins : (s : ℕ) → drains_after_change C (Some (drain_change n true)) s ≡ is_draining (drain C n) s
  unfolding drains_after_change is_draining drains drain node_of
  begins s = by (node_of C s)
    where
      one : (m : ℕ) (b : Bool) → (if b then true else is_some (get C.draining m)) ≡ is_some (cond b (Some tt) (get C.draining m))
      one m true = refl
      one m false = refl

      by : (z : Option ℕ) → option_map_or (λ m. if m == n then true else is_some (get C.draining m)) z false ≡ option_map_or (λ m. is_some (get (insert C.draining n tt) m)) z false
      by None = refl
      by (Some m) = one m (m == n) ∙ sym (ap is_some (get-insert C.draining n tt m) ∙ ap (λ b. is_some (cond b (Some tt) (get C.draining m))) (number_tie m n))

  ceases : (s : ℕ) → drains_after_change C (Some (drain_change n false)) s ≡ is_draining (undrain C n) s
  unfolding drains_after_change is_draining drains undrain node_of
  ceases s = by (node_of C s)
    where
      one : (m : ℕ) (b : Bool) → (if b then false else is_some (get C.draining m)) ≡ is_some (cond b None (get C.draining m))
      one m true = refl
      one m false = refl

      by : (z : Option ℕ) → option_map_or (λ m. if m == n then false else is_some (get C.draining m)) z false ≡ option_map_or (λ m. is_some (get (remove C.draining n) m)) z false
      by None = refl
      by (Some m) = one m (m == n) ∙ sym (ap is_some (get-remove C.draining n m) ∙ ap (λ b. is_some (cond b None (get C.draining m))) (number_tie m n))

  begun : (v : Leveled) → AreLevelsBy (rack_of C) (drains_after_change C (Some (drain_change n true))) (is_multi_rack C) v → AreLevels (drain C n) v
  unfolding drain rack_of node_of is_multi_rack
  begun v h slot = h slot ∙ (λ i. level_by (rack_of C) (λ s. begins s i) (is_multi_rack C) (block_at v.arena slot))

  ceased : (v : Leveled) → AreLevelsBy (rack_of C) (drains_after_change C (Some (drain_change n false))) (is_multi_rack C) v → AreLevels (undrain C n) v
  unfolding undrain rack_of node_of is_multi_rack
  ceased v h slot = h slot ∙ (λ i. level_by (rack_of C) (λ s. ceases s i) (is_multi_rack C) (block_at v.arena slot))

  -- levels with the event's draining nodes are those in the cluster after the event
  pub turned_levels : (d : Bool) (v : Leveled) → AreLevelsBy (rack_of C) (drains_after_change C (Some (drain_change n d))) (is_multi_rack C) v → AreLevels (if d then drain C n else undrain C n) v
  turned_levels true v h = begun v h
  turned_levels false v h = ceased v h

  -- the storages of other nodes drain as before
  unturned : (d : Bool) (s : ℕ) → has_storage C n s ≡ false → is_draining C s ≡ drains_after_change C (Some (drain_change n d)) s
  unfolding has_storage drains_after_change is_draining
  unturned d s off = by (node_of C s) off
    where
      by : (z : Option ℕ) → option_map_or (λ m. m == n) z false ≡ false → option_map_or (drains C) z false ≡ option_map_or (λ m. if m == n then d else drains C m) z false
      by None e = refl
      by (Some m) e = sym (ap (λ b. if b then d else drains C m) e)

  pub off_alike : (d : Bool) (multi : Bool) (a : Contents) → IsLawful a → (slot : ℕ) → IsOff C n a slot
      → level_by (rack_of C) (is_draining C) multi (block_at a slot) ≡ level_by (rack_of C) (drains_after_change C (Some (drain_change n d))) multi (block_at a slot)
  off_alike d multi a lawful slot off = level_alike (rack_of C) (rack_of C) (is_draining C) (drains_after_change C (Some (drain_change n d))) multi (block_at a slot) (λ s there. (refl, unturned d s (by s there (has_storage C n s) refl)))
    where
      by : (s : ℕ) → IsSome (marks_at a slot s) → (b : Bool) → has_storage C n s ≡ b → b ≡ false
      by s there true e = absurd (off s e ((lawful.exact slot s).1 there))
      by s there false e = refl

  -- the slots with a replica on the node are reclassified, and the others keep their status
  pub turned_all : (d : Bool) (multi : Bool) (old : Leveled) (K : IndexedLevels) → multi ≡ is_multi_rack C → IsLawful old.arena
      → ((slot : ℕ) → IsClassified (rack_of C) (drains_after_change C (Some (drain_change n d))) multi (block_at old.arena slot) K slot ⊎ (IsSameAt old.level_index K slot × IsOff C n old.arena slot))
      → AreLevels C old → AreLevels (if d then drain C n else undrain C n) (record { arena = old.arena; level_index = K })
  turned_all d multi old K is lawful each h =
      let P : Bool → Type 0 = λ m. AreLevelsBy (rack_of C) (drains_after_change C (Some (drain_change n d))) m (record { arena = old.arena; level_index = K }) in
      let Q : Bool → Type 0 = λ m. AreLevelsBy (rack_of C) (is_draining C) m old in
      turned_levels d (record { arena = old.arena; level_index = K })
      (subst P is
      (levels_again (rack_of C) (drains_after_change C (Some (drain_change n d))) multi old K (rack_of C) (is_draining C) multi (λ slot.
      elim (each slot) [ inl status ↦ inl status | inr same ↦ inr (same.0, off_alike d multi old.arena lawful slot same.1) ])
      (subst Q (sym is) h)))
