-- Blocks and replicas in an arena, with the stored status of each block.
use Rattle.std.specs.Prelude.{◌≡◌, ◌↔◌, ℕ, ◌+◌, false, None, IsSome}
use Rattle.bm_base.specs.Machine.State.{Cluster}
use Rattle.bm_arena.specs.Contents.{Contents, block_at, marks_at}
use Rattle.bm_arena.specs.HeldMaps.{info_at}
use Rattle.bm_levels.specs.Status.{level_in, is_settled_at}
use Rattle.bm_levels.specs.IndexedLevels.{IndexedLevels, level_of_slot, IsUnsettled, HasCapacityFor}

pub record Leveled : Type 0 where
  pub arena : Contents
  pub level_index : IndexedLevels

-- the invariant between calls
pub record IsLeveled (v : Leveled) : Type 0 where
  -- no list has the delimiter in it, and it is no known block
  pub free : (storage : ℕ) → marks_at v.arena v.arena.delimiter storage ≡ None
  pub blank : info_at v.arena v.arena.delimiter ≡ None
  -- there is capacity for every slot that is held
  pub capacity : (slot : ℕ) → IsSome (block_at v.arena slot) → HasCapacityFor v.level_index (slot + 1)
  -- the unsettled slots are exactly those of the blocks that are not settled
  pub unsettled : (slot : ℕ) → IsUnsettled v.level_index slot ↔ (is_settled_at (block_at v.arena slot) ≡ false)
  -- a slot without a known block has no level
  pub unknown : (slot : ℕ) → info_at v.arena slot ≡ None → level_of_slot v.level_index slot ≡ None

-- the level of each slot is that of its block in a cluster
abbrev pub AreLevels : Cluster → Leveled → Type 0
AreLevels C v = (slot : ℕ) → level_of_slot v.level_index slot ≡ level_in C (block_at v.arena slot)

-- a change keeps the levels right in a cluster
abbrev pub KeepsLevels : Cluster → Leveled → Leveled → Type 0
KeepsLevels C old new = AreLevels C old → AreLevels C new
