-- What a contract sees of level lists.
-- Source: the queues of Hadoop 2's UnderReplicatedBlocks.
use Rattle.std.specs.Prelude.{◌≡◌, ◌↔◌, ℕ, ◌+◌, ◌-◌, ◌<◌, ◌≤◌, ◌++◌, List, [], length, replicate, Option, Some, None, slice_index_or, option_and_then}
use Rattle.bm_base.specs.declared.replica.Level.{Level}
use Rattle.bm_base.specs.Machine.Levels.{level_number}
use Rattle.bm_maps.specs.SlotLists.{IsMember, Distinct, first_of, slot_after}
use Rattle.bm_maps.specs.SlotLinks.{end_of_links}
use Rattle.bm_queues.specs.Links.{walk}

-- the level of each slot below the capacity, and by number of level its slots, in order from the
-- front
pub record Levels : Type 0 where
  pub levels : List (Option Level)
  pub lists : List (List ℕ)

abbrev pub level_at : Levels → ℕ → Option Level
level_at v slot = slice_index_or v.levels slot None

abbrev pub slots_of : Levels → Level → List ℕ
slots_of v level = slice_index_or v.lists (level_number level) []

-- the next slot in the list of a slot's level
abbrev pub next_of : Levels → ℕ → Option ℕ
next_of v slot = option_and_then (λ l. slot_after slot (slots_of v l)) (level_at v slot)

-- the capacity grown to n slots: new slots have no level
abbrev pub with_capacity : Levels → ℕ → Levels
with_capacity v capacity = record v { levels = v.levels ++ replicate (capacity - length v.levels) None }

-- the slots that following `next` from the first slot of a level visits
abbrev pub visited : Levels → Level → List ℕ
visited v l = walk (next_of v) (length (slots_of v l)) (first_of (slots_of v l))

-- the invariant of level lists
pub record IsLawful (v : Levels) : Type 0 where
  -- there is a list for each level
  pub five : length v.lists ≡ 5
  -- a list has no slot twice
  pub distinct : (l : Level) → Distinct (slots_of v l)
  -- it has exactly the slots of its level
  pub exact : (l : Level) (slot : ℕ) → IsMember slot (slots_of v l) ↔ (level_at v slot ≡ Some l)
  -- they are below the capacity
  pub below : (l : Level) (slot : ℕ) → IsMember slot (slots_of v l) → slot < length v.levels
  -- 32 bits can name all slots below the capacity
  pub small : length v.levels + 1 ≤ end_of_links
