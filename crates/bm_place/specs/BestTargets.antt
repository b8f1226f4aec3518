-- The best targets of the nodes.
use Rattle.std.specs.Prelude.{◌≡◌, ◌≤◌, ℕ, zero, suc, Bool, true, false, ◌&&◌, ◌==◌, ◌⊎◌, if◌then◌else◌, List, [], ◌∷◌, Option, Some, None}
use Rattle.std.specs.declared.cmp.Ordering.{Ordering}
use Rattle.std.specs.Ordering.{nat_cmp, ordering_then, is_lt}
use Rattle.std.specs.Bool.{beq}
use Rattle.std.specs.List.Sorted.{IsPermutation, IsSorted}
use Rattle.std.specs.Option.{option_eq, option_map_or}
use Rattle.bm_base.specs.Words.{Map, by_number, empty, entries, get, insert, values, Cluster, has_storage}
use Rattle.bm_place.specs.declared.scheduled_bytes.TargetRow.{TargetRow}
use Rattle.bm_place.specs.Targets.{free_bytes_on}

-- whether an element is one of a list
abbrev pub IsMember : {X : Type 0} → List X → X → Type 0
IsMember [] y = ⊥
IsMember (x ∷ xs) y = (x ≡ y) ⊎ IsMember xs y

-- whether two targets are of one node, on one rack, and both drain or neither does
abbrev pub are_of_one_node : TargetRow → TargetRow → Bool
are_of_one_node s t = option_eq (λ m n. m == n) s.node t.node && option_eq (λ m n. m == n) s.rack t.rack && beq s.is_draining t.is_draining

-- which of two targets of one node is better: more free bytes, then the lesser storage;
-- `cmp_targets` of one rack
abbrev pub cmp_of_one_node : TargetRow → TargetRow → Ordering
cmp_of_one_node s t = ordering_then (nat_cmp (free_bytes_on t) (free_bytes_on s)) (nat_cmp s.storage t.storage)

-- whether the first is better than the second
abbrev pub is_better_than : TargetRow → TargetRow → Bool
is_better_than s t = is_lt (cmp_of_one_node s t)

-- the better of two targets, if the other one is of the target's node; else the best so far
abbrev pub better_of : TargetRow → TargetRow → Option TargetRow → TargetRow
better_of best t None = best
better_of best t (Some c) = if are_of_one_node c t && is_better_than c best then c else best

-- the best targets of the nodes, by node, with one more target of node n, where c is the one so far
abbrev pub first_at : Map by_number TargetRow → ℕ → TargetRow → Option TargetRow → Map by_number TargetRow
first_at firsts n t None = insert firsts n t
first_at firsts n t (Some c) = if is_better_than t c then insert firsts n t else firsts

-- the best targets of the nodes with one more target; nothing changes for one without a node
abbrev pub with_first : Map by_number TargetRow → TargetRow → Map by_number TargetRow
with_first firsts t = option_map_or (λ n. first_at firsts n t (get firsts n)) t.node firsts

-- the best targets of the nodes with each of these targets
abbrev pub with_firsts : Map by_number TargetRow → List TargetRow → Map by_number TargetRow
with_firsts firsts [] = firsts
with_firsts firsts (t ∷ ts) = with_firsts (with_first firsts t) ts

-- a target inserted after those that are better
abbrev pub with_in_order : List TargetRow → TargetRow → List TargetRow
with_in_order [] t = t ∷ []
with_in_order (c ∷ cs) t = if is_better_than c t then c ∷ with_in_order cs t else t ∷ c ∷ cs

-- the best of these targets for each node
abbrev pub best_by_node : List TargetRow → List TargetRow
best_by_node ts = values (entries (with_firsts empty ts))

-- these are the best of those targets for each node, in order
pub record AreBestInOrder (ts cs : List TargetRow) : Type 0 where
  pub same : IsPermutation (best_by_node ts) cs
  pub in_order : IsSorted cmp_of_one_node cs

-- the target at an index replaced, and moved back after those that are better
abbrev pub reposition : TargetRow → ℕ → List TargetRow → List TargetRow
reposition t i [] = []
reposition t zero (c ∷ cs) = with_in_order cs t
reposition t (suc i) (c ∷ cs) = c ∷ reposition t i cs

-- a target may replace another: they are of one node, and the other is not better
pub record CanReplace (c t : TargetRow) : Type 0 where
  pub alike : are_of_one_node c t ≡ true
  pub before : is_better_than t c ≡ false

-- d may come after c: it is not better, and of another node
pub record IsBehind (d c : TargetRow) : Type 0 where
  pub order : is_better_than d c ≡ false
  pub other : are_of_one_node c d ≡ false

-- these targets are sorted, no two of them of one node
abbrev pub IsInOrder : List TargetRow → Type 0
IsInOrder [] = Unit {0}
IsInOrder (c ∷ cs) = ((d : TargetRow) → IsMember cs d → IsBehind d c) × IsInOrder cs

-- Some targets of a table of storages that suffice in place of all of them.
pub record AreBestTargets (rows : Map by_number TargetRow) (cs : List TargetRow) : Type 0 where
  -- they are of the table
  pub known : (c : TargetRow) → IsMember cs c → get rows c.storage ≡ Some c
  -- for each row of the table there is one
  pub first : (t : TargetRow) → get rows t.storage ≡ Some t → (c : TargetRow) × IsMember cs c × CanReplace c t
  -- no more is scheduled to a storage than remains on it
  pub within : (c : TargetRow) → IsMember cs c → c.scheduled ≤ c.remaining
  -- they are sorted
  pub ordered : IsInOrder cs

-- The invariant of a table of storages and its best targets.
pub record IsKept (rows : Map by_number TargetRow) (cs : List TargetRow) : Type 0 where
  -- each row has the number of its storage, and no more is scheduled to a storage than remains on
  -- it
  pub at_storage : (s : ℕ) (t : TargetRow) → get rows s ≡ Some t → t.storage ≡ s
  pub within : (s : ℕ) (t : TargetRow) → get rows s ≡ Some t → t.scheduled ≤ t.remaining
  pub best_targets : AreBestTargets rows cs

-- each row is of a storage of the cluster, and names its node
abbrev pub AreOf : Cluster → Map by_number TargetRow → Type 0
AreOf C rows = (s : ℕ) (t : TargetRow) → get rows s ≡ Some t → (n : ℕ) × (t.node ≡ Some n) × (has_storage C n s ≡ true)

-- A table of the storages of a cluster as targets, and the best target of each node.
pub record IsIndexed (C : Cluster) (rows : Map by_number TargetRow) (cs : List TargetRow) : Type 0 where
  pub kept : IsKept rows cs
  pub of_cluster : AreOf C rows
