-- Storages that leave by an event, and their lists.
use Rattle.std.specs.Prelude.{◌≡◌, ◌==◌, ℕ, Bool, true, false}
use Rattle.bm_base.specs.declared.event.Event.{Event}
use Rattle.bm_base.specs.declared.event.Event.TheVariants.{Dead, StorageFailed}
use Rattle.bm_base.specs.Words.{Cluster, has_storage}
use Rattle.bm_maps.specs.SlotLists.{IsMember}
use Rattle.bm_shard.specs.ShardView.{Seen}

-- whether a storage leaves by an event: those of a dead node, and one that fails
abbrev pub leaves : Cluster → Event → ℕ → Bool
leaves C (Dead n) s = has_storage C n s
leaves C (StorageFailed t) s = s == t
leaves C _ s = false

-- no storage that passes has a list
abbrev pub HasNoLists : (ℕ → Bool) → Seen → Type 0
HasNoLists left S = (s : ℕ) → left s ≡ true → IsMember s S.reserved.lists → ⊥
