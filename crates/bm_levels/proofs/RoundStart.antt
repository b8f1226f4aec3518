-- A round's first marks change replicas as the definition does, and keep blocks, entries and
-- settled slots.
use Rattle.std.specs.Prelude.{◌≡◌, ℕ, ◌+◌, true, false, if◌then◌else◌, List, Option, Some, None, IsSome, nat_eq, option_and_then}
use Rattle.std.specs.Map.{lookup}
use Rattle.std.proofs.Common.{refl, sym, ap, ◌∙◌, inl, inr}
use Rattle.std.proofs.lemmas.Bool.{cases_Bool, true≢false}
use Rattle.bm_base.specs.declared.replica.ReplicaId.{ReplicaId}
use Rattle.bm_base.specs.Words.{revise, Cluster, Holdings, with_excess_reset, without_unordered_excess, with_surplus_marked}
use Rattle.bm_base.specs.RoundParts.{surplus}
use Rattle.bm_arena.specs.Triplets.{Block}
use Rattle.bm_arena.specs.Contents.{Contents, block_at, slot_of, IsLawful, KeepsAllBut, KeepsEntries}
use Rattle.bm_arena.specs.HeldMaps.{replicas_at, replicas_of, blocks_of, info_at, holdings_of}
use Rattle.bm_arena.proofs.HeldReplicas.{same_blocks, under, info_known}
use Rattle.bm_arena.proofs.StableEntries.{entries-chain}
use Rattle.bm_levels.specs.Status.{is_settled_at}
use Rattle.bm_levels.specs.IndexedLevels.{IsUnsettled, HasCapacityFor}
use Rattle.bm_levels.specs.LeveledBlocks.{Leveled, IsLeveled}
use Rattle.bm_levels.specs.Changes.{as_excess, all_changed, has_replica, has_block}
use Rattle.bm_levels.proofs.ManySlots.{marker_settled}
use Rattle.bm_levels.proofs.OneSlot.{IsChangedAt}
use Rattle.bm_levels.proofs.RoundMarks.{settled_block, begun_replicas, no_surplus, marked_replicas, none_marked}

-- an unsettled slot holds a block
pub unsettled_held : (o : Option Block) → is_settled_at o ≡ false → IsSome o
unfolding is_settled_at
unsettled_held None e = absurd (true≢false e)
unsettled_held (Some b) e = refl

-- a change that keeps the entries keeps the known blocks
pub entries_blocks : (a c : Contents) → KeepsEntries a c → blocks_of c ≡ blocks_of a
entries_blocks a c keeps =
    same_blocks a c (λ b.
    ap (λ l. option_and_then (λ x. info_at c x) (lookup (nat_eq b) l)) keeps.ids
    ∙ under (λ x. info_at c x) (λ x. info_at a x) (slot_of a b) (λ x. info_known (block_at c x) (block_at a x) (keeps.known x)))

-- there is capacity for each unsettled slot
pub start_capacity : (old : Leveled) → IsLeveled old → (slot : ℕ) → IsUnsettled old.level_index slot → HasCapacityFor old.level_index (slot + 1)
start_capacity old h slot there = h.capacity slot (unsettled_held (block_at old.arena slot) ((h.unsettled slot).0 there))

-- an unsettled slot holds a block and is not the delimiter's
pub changed_there : (old : Leveled) → IsLeveled old → (a : Contents) (slot : ℕ) → IsUnsettled old.level_index slot → KeepsAllBut slot old.arena a → IsChangedAt old.arena a slot
changed_there old h a slot there rest =
    let marker = old.arena.delimiter in
    let unsettled = (h.unsettled slot).0 there in
    record {
      blocks = rest.blocks;
      delimiter = rest.delimiter;
      apart = λ same. true≢false (sym (marker_settled (block_at old.arena marker) h.free h.blank) ∙ ap (λ z. is_settled_at (block_at old.arena z)) (sym same) ∙ unsettled);
      held = unsettled_held (block_at old.arena slot) unsettled;
    }

-- a round's marks set the marks of excess again, and change nothing at settled slots
pub record IsStarted (C : Cluster) (old : Leveled) (c : Contents) : Type 0 where
  pub replicas : replicas_of c ≡ (with_surplus_marked C (without_unordered_excess (holdings_of old.arena))).replicas
  pub blocks : blocks_of c ≡ blocks_of old.arena
  pub entries : KeepsEntries old.arena c
  pub left : (slot : ℕ) → (IsUnsettled old.level_index slot → ⊥) → block_at c slot ≡ block_at old.arena slot

module _ (C : Cluster) (old : Leveled) (lawful : IsLawful old.arena) (h : IsLeveled old) (b c : Contents) (ps : List ReplicaId)
    (begun : (slot : ℕ) → IsUnsettled old.level_index slot → replicas_at b slot ≡ all_changed with_excess_reset (replicas_at old.arena slot))
    (left_begun : (slot : ℕ) → (IsUnsettled old.level_index slot → ⊥) → block_at b slot ≡ block_at old.arena slot) (entries_begun : KeepsEntries old.arena b)
    (excess : replicas_of c ≡ revise (replicas_of b) (λ q m. if has_replica ps q then as_excess m else m))
    (left_marked : (slot : ℕ) → ((x : ℕ) → slot_of b x ≡ Some slot → has_block ps x ≡ false) → block_at c slot ≡ block_at b slot) (entries_marked : KeepsEntries b c)
    (are : ps ≡ surplus C (without_unordered_excess (holdings_of old.arena))) where
  abbrev a : Contents
  a = old.arena

  abbrev G : Holdings
  G = without_unordered_excess (holdings_of a)

  settled_slot : (slot : ℕ) → (IsUnsettled old.level_index slot → ⊥) → is_settled_at (block_at a slot) ≡ true
  settled_slot slot absent = elim (cases_Bool (is_settled_at (block_at a slot))) [ inl e ↦ e | inr e ↦ absurd (absent ((h.unsettled slot).1 e)) ]

  start_replicas : replicas_of c ≡ (with_surplus_marked C G).replicas
  start_replicas =
      marked_replicas C G (replicas_of c)
      (excess
      ∙ ap (λ l. revise (replicas_of b) (λ q m. if has_replica l q then as_excess m else m)) are
      ∙ ap (λ m. revise m (λ q m. if has_replica (surplus C G) q then as_excess m else m)) (begun_replicas a b old.level_index.unsettled.slots lawful entries_begun.ids settled_slot begun left_begun))

  entries : KeepsEntries a c
  entries = entries-chain a b c entries_begun entries_marked

  start_blocks : blocks_of c ≡ blocks_of a
  start_blocks = entries_blocks a c entries

  -- settled slots are as before
  left : (slot : ℕ) → (IsUnsettled old.level_index slot → ⊥) → block_at c slot ≡ block_at a slot
  left slot absent =
      left_marked slot (λ x led.
      let here : slot_of a x ≡ Some slot = sym (ap (λ l. lookup (nat_eq x) l) entries_begun.ids) ∙ led in
      ap (λ l. has_block l x) are ∙ no_surplus C G x (none_marked C (holdings_of a) x (settled_block a lawful x slot here (settled_slot slot absent))))
      ∙ left_begun slot absent

  pub started : IsStarted C old c
  started = record { replicas = start_replicas; blocks = start_blocks; entries = entries; left = left }
