-- How the cells of slots, and an array for each level, represent level lists.
use Rattle.std.specs.Prelude.{◌≡◌, ℕ, ◌+◌, ◌<◌, ◌≤◌, List, [], length, map, reverse, Option, Some, None, slice_index_or, vec_capacity}
use Rattle.std.specs.List.{All}
use Rattle.std.specs.declared.vec.Vec.{Vec}
use Rattle.bm_base.specs.declared.replica.Level.{Level}
use Rattle.bm_base.specs.Machine.Levels.{level_number}
use Rattle.bm_maps.specs.SlotLinks.{end_of_links}
use Rattle.bm_queues.specs.Levels.{Levels}
use Rattle.bm_queues.specs.declared.level_lists.Cell.{Cell}

abbrev pub levels_in : List Cell → List (Option Level)
levels_in cells = map (λ (c : Cell). c.level) cells

abbrev pub indices_in : List Cell → List ℕ
indices_in cells = map (λ (c : Cell). c.index) cells

module _ {Z : Type 0} where
  abbrev pub arrays_in : List (Vec ℕ Z) → List (List ℕ)
  arrays_in arrays = map (λ (v : Vec ℕ Z). v.items) arrays

  -- each array has this capacity
  abbrev pub HaveCapacity : List (Vec ℕ Z) → ℕ → Type 0
  HaveCapacity arrays bound = All (λ (v : Vec ℕ Z). bound ≤ vec_capacity v) arrays

-- the end of an array is the front of its list
abbrev pub seen : List (Option Level) → List (List ℕ) → Levels
seen levels arrays = record { levels = levels; lists = map reverse arrays }

abbrev pub level_in : List (Option Level) → ℕ → Option Level
level_in levels slot = slice_index_or levels slot None

abbrev pub array_of : List (List ℕ) → Level → List ℕ
array_of arrays l = slice_index_or arrays (level_number l) []

pub record AreDense (levels : List (Option Level)) (indices : List ℕ) (arrays : List (List ℕ)) : Type 0 where
  pub five : length arrays ≡ 5
  -- each slot in an array has its level, and the index where it is
  pub level : (l : Level) (i : ℕ) → i < length (array_of arrays l) → level_in levels (slice_index_or (array_of arrays l) i 0) ≡ Some l
  pub index : (l : Level) (i : ℕ) → i < length (array_of arrays l) → slice_index_or indices (slice_index_or (array_of arrays l) i 0) 0 ≡ i
  -- each slot with a level is in the array of the level
  pub inside : (l : Level) (slot : ℕ) → level_in levels slot ≡ Some l → slice_index_or indices slot 0 < length (array_of arrays l)
  pub there : (l : Level) (slot : ℕ) → level_in levels slot ≡ Some l → slice_index_or (array_of arrays l) (slice_index_or indices slot 0) 0 ≡ slot
  -- 32 bits can name all slots below the capacity
  pub small : length levels + 1 ≤ end_of_links
