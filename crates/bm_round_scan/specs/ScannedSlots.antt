-- The slots that a round scans.
use Rattle.std.specs.Prelude.{◌≡◌, ◌↔◌, ℕ, ◌-◌, Bool, false, not, ◌&&◌, nat_lt, nat_le, List, ◌++◌, filter, length, Option}
use Rattle.std.specs.Option.{option_map_or}
use Rattle.bm_base.specs.Words.{Cluster, has, is_live_on, level_number}
use Rattle.bm_parts.specs.BoundedWishes.{is_before}
use Rattle.bm_arena.specs.Contents.{Contents, block_at}
use Rattle.bm_arena.specs.HeldMaps.{id_at, info_at, replicas_at}
use Rattle.bm_pending.specs.PendingMap.{PendingMap}
use Rattle.bm_pending.specs.RemainingTargets.{remaining_targets}
use Rattle.bm_levels.specs.Status.{is_settled_at, storages_at}
use Rattle.bm_levels.specs.IndexedLevels.{IndexedLevels, IsUnsettled, level_of_slot, slots_needing_copies}

-- the unsettled slots are just those of the blocks that are not settled
abbrev pub AreMarked : IndexedLevels → Contents → Type 0
AreMarked K a = (slot : ℕ) → IsUnsettled K slot ↔ (is_settled_at (block_at a slot) ≡ false)

-- the level and the number of the block at a slot; 5 if it has no level
abbrev pub key_at : IndexedLevels → Contents → ℕ → ℕ × ℕ
key_at K a slot = (option_map_or level_number (level_of_slot K slot) 5, id_at a slot)

-- a slot with its key
abbrev pub keyed_at : IndexedLevels → Contents → ℕ → (ℕ × ℕ) × ℕ
keyed_at K a slot = (key_at K a slot, slot)

-- whether a transfer of the block at a slot stays pending, and its live replicas and its pending
-- transfers reach the wanted number
abbrev pub has_enough_pending : Cluster → ℕ → ℕ → Contents → PendingMap → ℕ → Bool
has_enough_pending C pend r a p slot =
    let n = length (remaining_targets pend r p (id_at a slot)) in
    nat_lt 0 n && option_map_or (λ i. nat_le (i.repl - length (storages_at (is_live_on C) (replicas_at a slot))) n) (info_at a slot) false

-- whether a slot is settled, comes before a bound, and lacks pending transfers
abbrev pub is_settled_to_scan : IndexedLevels → Contents → Option (ℕ × ℕ) → (ℕ → Bool) → ℕ → Bool
is_settled_to_scan K a bound has_enough slot = is_before bound (key_at K a slot) && (not (has K.unsettled.slots slot) && not (has_enough slot))

-- the slots that a round scans for the wishes before a bound: all unsettled ones, and some of the
-- settled ones. These are at a level at which copies are wanted, before the bound, and without
-- enough pending transfers.
abbrev pub scanned_slots : IndexedLevels → Contents → Option (ℕ × ℕ) → (ℕ → Bool) → List ℕ
scanned_slots K a bound has_enough = K.unsettled.slots ++ filter (is_settled_to_scan K a bound has_enough) (slots_needing_copies K)
