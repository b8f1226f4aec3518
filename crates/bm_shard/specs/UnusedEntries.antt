-- Unused entries have neither a block nor a replica: only a prepared event may need them. Unused
-- capacity is capacity for transfers of a block that has none pending: only a prepared round may
-- need it.
use Rattle.std.specs.Prelude.{◌≡◌, ◌==◌, ℕ, Bool, false, [], IsTrue, None, nat_eq}
use Rattle.std.specs.Option.{unwrap_or}
use Rattle.std.specs.Map.{lookup}
use Rattle.bm_base.specs.declared.ids.Part.{Part}
use Rattle.bm_base.specs.declared.event.Event.{Event}
use Rattle.bm_base.specs.declared.event.Event.TheVariants.{AddBlock, Received, FullReport}
use Rattle.bm_base.specs.Words.{get, replica_at, expanded, is_named, pending_targets}
use Rattle.bm_maps.specs.SlotLists.{IsMember}
use Rattle.bm_parts.specs.Parts.{reported_of}
use Rattle.bm_shard.specs.ShardView.{Seen}

-- the number has an entry, and neither a known block nor a replica
pub record IsUnused (S : Seen) (b : ℕ) : Type 0 where
  pub entry : IsMember b S.reserved.entries
  pub unknown : get S.holdings.blocks b ≡ None
  pub empty : (s : ℕ) → get S.holdings.replicas (replica_at b s) ≡ None

abbrev pub HasNoUnused : Seen → Type 0
HasNoUnused S = (b : ℕ) → IsUnused S b → ⊥

-- only these numbers have unused entries
abbrev pub HasUnusedOnly : (ℕ → Bool) → Seen → Type 0
HasUnusedOnly these S = (b : ℕ) → IsUnused S b → IsTrue (these b)

-- whether an event, at a shard, may give a number an entry
abbrev pub may_add_entry : Part → Event → ℕ → Bool
may_add_entry part (AddBlock b stamp repl) n = b == n
may_add_entry part (Received s b stamp) n = b == n
may_add_entry part (FullReport s es) n = is_named (reported_of part.index part.shards (expanded es)) n
may_add_entry part _ n = false

-- a block without a pending transfer has no capacity for any
abbrev pub HasNoUnusedCapacity : Seen → Type 0
HasNoUnusedCapacity S = (b : ℕ) → pending_targets S.holdings b ≡ [] → unwrap_or (lookup (nat_eq b) S.reserved.transfers) 0 ≡ 0
