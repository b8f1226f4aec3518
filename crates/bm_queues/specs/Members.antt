-- What a contract sees of a set of slots.
use Rattle.std.specs.Prelude.{◌≡◌, ℕ, ◌+◌, ◌<◌, ◌≤◌, if◌then◌else◌, nat_lt, List, length, Option}
use Rattle.bm_maps.specs.SlotLists.{IsMember, Distinct, first_of, slot_after}
use Rattle.bm_maps.specs.SlotLinks.{end_of_links}
use Rattle.bm_queues.specs.Links.{AreLinks, list_from, walk}

-- the slots in order from the front, and the capacity
pub record Members : Type 0 where
  pub slots : List ℕ
  pub capacity : ℕ

-- the slots that following `next` from the first one visits
abbrev pub visited : Members → List ℕ
visited v = walk (λ slot. slot_after slot v.slots) (length v.slots) (first_of v.slots)

-- the same members, with capacity for n slots or more
abbrev pub with_capacity : Members → ℕ → Members
with_capacity v capacity = record v { capacity = if nat_lt v.capacity capacity then capacity else v.capacity }

-- the invariant of a set
pub record IsLawful (v : Members) : Type 0 where
  pub distinct : Distinct v.slots
  pub below : (slot : ℕ) → IsMember slot v.slots → slot < v.capacity
  -- links can name all slots below the capacity
  pub small : v.capacity + 1 ≤ end_of_links

-- the representation of a set by its fields
pub record AreMembers (k : ℕ) (next back : List (Option ℕ)) (count : ℕ) : Type 0 where
  pub heads : k ≡ 1
  pub links : AreLinks k next back
  pub counted : count ≡ length (list_from k next back 0)
