-- The reported blocks of a shard, and what a look-up of its numbers keeps.
use Rattle.std.specs.Prelude.{◌≡◌, ◌≢◌, ℕ, ◌≤◌, List, IsSome, Some}
use Rattle.bm_base.specs.declared.ids.Part.{Part}
use Rattle.bm_base.specs.declared.event.Entry.{Entry}
use Rattle.bm_base.specs.Machine.Entries.{ReportedBlock, expanded}
use Rattle.bm_parts.specs.Parts.{reported_of}
use Rattle.bm_arena.specs.Triplets.{Block}
use Rattle.bm_arena.specs.Contents.{Contents, block_at, slot_of, marks_at, list_of, entry_capacity, with_entry_capacity, HasHead, HasCapacity}
use Rattle.bm_arena.specs.HeldMaps.{replicas_of, blocks_of}

-- the reported blocks of a shard's numbers
abbrev pub of_part : Part → List ReportedBlock → List ReportedBlock
of_part part ts = reported_of part.index part.shards ts

-- the reported blocks of a shard's numbers by the entries of a report, in their order, repeats
-- included
abbrev pub reported_to_part : Part → List Entry → List ReportedBlock
reported_to_part part es = of_part part (expanded es)

-- numbers may have got slots, and slots capacity: all blocks and replicas stay
pub record IsPrepared (old new : Contents) : Type 0 where
  pub replicas : replicas_of new ≡ replicas_of old
  pub blocks : blocks_of new ≡ blocks_of old
  pub lists : (t : ℕ) → list_of new t ≡ list_of old t
  pub heads : (t : ℕ) → HasHead old t → HasHead new t
  pub delimiter : new.delimiter ≡ old.delimiter
  pub steps : new.steps ≡ old.steps
  pub slots : (b slot : ℕ) → slot_of old b ≡ Some slot → slot_of new b ≡ Some slot
  pub held : (slot : ℕ) → IsSome (block_at old slot) → IsSome (block_at new slot)
  pub marks : (slot t : ℕ) → IsSome (block_at old slot) → marks_at new slot t ≡ marks_at old slot t
  pub capacity : (slot : ℕ) → slot ≢ old.delimiter → HasCapacity old slot → HasCapacity new slot
  -- the content of a slot stays, its replicas in their order, but for more capacity
  pub entries : (slot : ℕ) (b : Block) → block_at old slot ≡ Some b → block_at new slot ≡ Some (with_entry_capacity (entry_capacity new slot) b)
  pub grows : (slot : ℕ) → entry_capacity old slot ≤ entry_capacity new slot
  pub bound : old.bound ≤ new.bound
