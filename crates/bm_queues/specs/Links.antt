-- How links represent lists of slots. A cell is a head, numbered from 0 on, or a slot: slot x is
-- cell k + x, after the k heads. `next` has for each cell the slot after it, `back` for each slot
-- the cell before it, if it is in a list.
use Rattle.std.specs.Prelude.{◌≡◌, ℕ, zero, suc, ◌+◌, ◌<◌, ◌≤◌, List, [], ◌∷◌, length, Option, Some, None, slice_index_or, slice_set}
use Rattle.bm_maps.specs.SlotLinks.{end_of_links}
use Rattle.bm_maps.specs.SlotLists.{IsMember, Distinct}

abbrev pub link_at : List (Option ℕ) → ℕ → Option ℕ
link_at links i = slice_index_or links i None

-- the slots visited from `start` on by the next links, at most n
abbrev pub walk : (ℕ → Option ℕ) → ℕ → Option ℕ → List ℕ
walk behind zero start = []
walk behind (suc n) None = []
walk behind (suc n) (Some x) = x ∷ walk behind n (behind x)

-- the slots are those visited after a cell until a next link is None, and each links back to the
-- cell before
abbrev pub Chain : ℕ → (ℕ → Option ℕ) → (ℕ → Option ℕ) → ℕ → List ℕ → Type 0
Chain k next back cell [] = next cell ≡ None
Chain k next back cell (x ∷ xs) = (next cell ≡ Some x) × (back x ≡ Some cell) × Chain k next back (k + x) xs

-- the slots of the list of a head
abbrev pub list_from : ℕ → List (Option ℕ) → List (Option ℕ) → ℕ → List ℕ
list_from k next back l = walk (λ x. link_at next (k + x)) (length back) (link_at next l)

-- the links hold these lists
pub record HoldLists (k : ℕ) (next back : List (Option ℕ)) (lists : ℕ → List ℕ) : Type 0 where
  pub size : k + length back ≤ length next
  pub small : k + length back ≤ end_of_links
  pub chain : (l : ℕ) → l < k → Chain k (link_at next) (link_at back) l (lists l)
  -- these two follow, and are stated for convenience: a list has no slot twice, and a slot is in
  -- one list at most
  pub distinct : (l : ℕ) → l < k → Distinct (lists l)
  pub once : (l m x : ℕ) → l < k → m < k → IsMember x (lists l) → IsMember x (lists m) → l ≡ m
  -- a slot that links back is in a list
  pub complete : (x c : ℕ) → link_at back x ≡ Some c → (l : ℕ) × (l < k) × IsMember x (lists l)
  -- a slot in no list links nowhere
  pub clear : (x : ℕ) → link_at back x ≡ None → link_at next (k + x) ≡ None

-- the links hold the lists that the walks from the heads meet
abbrev pub AreLinks : ℕ → List (Option ℕ) → List (Option ℕ) → Type 0
AreLinks k next back = HoldLists k next back (list_from k next back)

-- sets the back link of a slot, if there is a slot
abbrev pub back_set : List (Option ℕ) → Option ℕ → Option ℕ → List (Option ℕ)
back_set back None cell = back
back_set back (Some x) cell = slice_set back x cell
