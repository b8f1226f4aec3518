use Rattle.std.proofs.Common.{◌≡◌, ℕ, Some, drop}
use Rattle.bm_maps.specs.SlotLists.{IsMember}
use Rattle.bm_arena.specs.Contents.{slot_of}
use Rattle.bm_arena.specs.HeldMaps.{replicas_of, blocks_of}
use Rattle.bm_levels.specs.UnusedEntries.{IsUnused, KeepsSlots}
use Rattle.bm_levels.specs.LevelsBy.{KeepsAllLevels}
use Rattle.bm_levels.proofs.leveled_blocks.LeveledBlocks.drop_each.Given as goal

-- numbers keep their entries or lose them, and no number of the slots so far has an unused entry
pub record AreDroppedSoFar (l : goal.Live-loop-slot) : Type 0 where
  pub blocks : blocks_of l.self.arena ≡ blocks_of l.fn.self.arena
  pub replicas : replicas_of l.self.arena ≡ replicas_of l.fn.self.arena
  pub slots : KeepsSlots l.fn.self.arena l.self.arena
  pub left : (b slot : ℕ) → IsMember slot l.slots → slot_of l.fn.self.arena b ≡ Some slot → IsUnused l.self.arena b → IsMember slot (drop l.slot-index l.slots)
  pub lists : l.self.arena.lists ≡ l.fn.self.arena.lists
  pub levels_by : KeepsAllLevels l.fn.self l.self

abbrev pub invariant-loop-slot : goal.invariant-loop-slot
invariant-loop-slot l = AreDroppedSoFar l
