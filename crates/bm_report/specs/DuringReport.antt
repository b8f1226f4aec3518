-- A full report while it runs: the marks of a replica, the maps and lists, and the counts.
use Rattle.std.specs.Prelude.{◌≡◌, ℕ, zero, suc, ◌+◌, ◌≤◌, ◌<◌, ◌^◌, ◌*◌, Bool, true, false, not, ◌&&◌, ◌||◌, ◌==◌, if◌then◌else◌, List, [], ◌∷◌, length, map, Option, Some, None, IsSome, ◌⊎◌}
use Rattle.std.specs.Option.{option_map_or}
use Rattle.bm_base.specs.declared.replica.ReplicaId.{ReplicaId}
use Rattle.bm_base.specs.declared.replica.Tag.{Tag}
use Rattle.bm_base.specs.declared.replica.Tag.TheVariants.{Good, Stale, Bad, Stray}
use Rattle.bm_base.specs.declared.replica.Marks.{Marks}
use Rattle.bm_base.specs.declared.replica.Stamp.{Stamp}
use Rattle.bm_base.specs.declared.replica.BlockInfo.{BlockInfo}
use Rattle.bm_base.specs.Words.{ReportedBlock, Map, by_number, get, insert, keep, remove, contains_key, len, Cluster, by_replica, replica_at, is_good, is_bad, are_siblings, same_stamp, replaces}
use Rattle.bm_maps.specs.SlotLists.{IsMember, without}
use Rattle.bm_arena.specs.Contents.{Contents, block_at, slot_of, marks_at, list_of, HasHead, HasCapacity, saturating_next, known_of, IsEntry, KeepsEntries}
use Rattle.bm_report.specs.declared.types.ReportedSlot.{ReportedSlot}
use Rattle.bm_report.specs.declared.report_counts.ReportCounts.{ReportCounts}
use Rattle.bm_arena.specs.HeldMaps.{replicas_of, blocks_of, info_at, id_at}

-- The marks of a reported replica while the report runs. The mark "in excess" means that it was so
-- before the report, even if it is not good now. So a block that is named again finds the state
-- before the report.
abbrev pub reported_tag : Option BlockInfo → Bool → Stamp → Tag
reported_tag info was_bad stamp = option_map_or (λ (i : BlockInfo). if was_bad then Bad else if same_stamp stamp i.stamp then Good else Stale) info Stray

abbrev pub marks_during_report : Option BlockInfo → Option Marks → Stamp → Marks
marks_during_report info was stamp = record {
  tag = reported_tag info (option_map_or (λ (m : Marks). is_bad m.tag) was false) stamp;
  excess = option_map_or (λ (m : Marks). m.excess) was false;
  ordered = false;
}

-- The marks after the report: only a good replica stays in excess. The mark "in excess" of any
-- other one is invalid excess.
abbrev pub without_invalid_excess : Marks → Marks
without_invalid_excess m = record m { excess = is_good m.tag && m.excess }

abbrev pub is_excess_good : Marks → Bool
is_excess_good m = not (m.excess && not (is_good m.tag))

-- adds replica p with marks m, and drops those on the other storages of its node
abbrev pub entered_at : Cluster → Map by_replica Marks → ReplicaId → Marks → Map by_replica Marks
entered_at C K p m = insert (keep K (λ q _. not (replaces C p q))) p m

-- the replicas after one named block was entered
unfoldable pub entered_one : Cluster → Map by_number BlockInfo → ℕ → ReportedSlot → Map by_replica Marks → Map by_replica Marks
entered_one C B s n K =
    entered_at C K (replica_at n.id s) (marks_during_report (get B n.id) (get K (replica_at n.id s)) n.stamp)

abbrev pub entered_all : Cluster → Map by_number BlockInfo → ℕ → List ReportedSlot → Map by_replica Marks → Map by_replica Marks
entered_all C B s [] K = K
entered_all C B s (n ∷ ns) K = entered_all C B s ns (entered_one C B s n K)

-- how many of the named blocks have no replica on s when they are entered
abbrev pub fresh_one : ℕ → ReportedSlot → Map by_replica Marks → ℕ
fresh_one s n K = if contains_key K (replica_at n.id s) then 0 else 1

abbrev pub fresh : Cluster → Map by_number BlockInfo → ℕ → List ReportedSlot → Map by_replica Marks → ℕ
fresh C B s [] K = 0
fresh C B s (n ∷ ns) K = fresh_one s n K + fresh C B s ns (entered_one C B s n K)

-- a node has at most one replica of a block
abbrev pub IsOncePerNode : Cluster → Map by_replica Marks → Type 0
IsOncePerNode C K = (p q : ReplicaId) → IsSome (get K p) → IsSome (get K q) → p.block ≡ q.block → are_siblings C p.storage q.storage ≡ false

-- only good replicas are in excess
abbrev pub IsExcessGood : Map by_replica Marks → Type 0
IsExcessGood K = (p : ReplicaId) (m : Marks) → get K p ≡ Some m → is_excess_good m ≡ true

-- the slots after the delimiter
abbrev pub after : ℕ → List ℕ → List ℕ
after d [] = []
after d (x ∷ xs) = if x == d then xs else after d xs

abbrev pub behind : Contents → ℕ → List ℕ
behind a s = after a.delimiter (list_of a s)

abbrev pub without_all : List ReportedSlot → List ℕ → List ℕ
without_all [] xs = xs
without_all (n ∷ ns) xs = without_all ns (without n.slot xs)

-- removes the replicas of these blocks on s
abbrev pub out_all : ℕ → List ℕ → Map by_replica Marks → Map by_replica Marks
out_all s [] K = K
out_all s (b ∷ bs) K = out_all s bs (remove K (replica_at b s))

-- drops the invalid excess of the named blocks on s
abbrev pub invalid_excess_out_one : ℕ → ℕ → Map by_replica Marks → Map by_replica Marks
invalid_excess_out_one s b K = option_map_or (λ m. insert K (replica_at b s) (without_invalid_excess m)) (get K (replica_at b s)) K

abbrev pub invalid_excess_out_all : ℕ → List ReportedSlot → Map by_replica Marks → Map by_replica Marks
invalid_excess_out_all s [] K = K
invalid_excess_out_all s (n ∷ ns) K = invalid_excess_out_all s ns (invalid_excess_out_one s n.id K)

abbrev pub reported_of : ReportedSlot → ReportedBlock
reported_of n = record { id = n.id; stamp = n.stamp }

-- the count of steps n after k more; it stays at its greatest value
abbrev pub saturating_sum : ℕ → ℕ → ℕ
saturating_sum zero n = n
saturating_sum (suc k) n = saturating_next (saturating_sum k n)

-- each named block is in its slot
abbrev pub AreAtSlots : Contents → List ReportedSlot → Type 0
AreAtSlots a [] = Unit {0}
AreAtSlots a (n ∷ ns) = (slot_of a n.id ≡ Some n.slot) × AreAtSlots a ns

-- a block that is not on s has capacity for it
abbrev pub HaveCapacity : Contents → ℕ → List ReportedSlot → Type 0
HaveCapacity a s [] = Unit {0}
HaveCapacity a s (n ∷ ns) = (marks_at a n.slot s ≡ None → HasCapacity a n.slot) × HaveCapacity a s ns

-- a named block is on s with exactly the marks that entering it gives, so that entering it changes
-- no block
abbrev pub IsAlreadyThere : Contents → ℕ → ReportedSlot → Type 0
IsAlreadyThere a s n = marks_at a n.slot s ≡ Some (marks_during_report (info_at a n.slot) (marks_at a n.slot s) n.stamp)

abbrev pub AllAlreadyThere : Contents → ℕ → List ReportedSlot → Type 0
AllAlreadyThere a s [] = Unit {0}
AllAlreadyThere a s (n ∷ ns) = IsAlreadyThere a s n × AllAlreadyThere a s ns

-- what entering blocks on s keeps
pub record KeepsRest (s : ℕ) (old new : Contents) : Type 0 where
  pub ids : new.ids ≡ old.ids
  pub delimiter : new.delimiter ≡ old.delimiter
  pub marker : block_at new old.delimiter ≡ block_at old old.delimiter
  pub blocks : blocks_of new ≡ blocks_of old
  pub heads : (t : ℕ) → HasHead old t → HasHead new t
  pub absent : (slot : ℕ) → marks_at new slot s ≡ None → marks_at old slot s ≡ None
  pub capacity : (slot : ℕ) → marks_at new slot s ≡ None → HasCapacity old slot → HasCapacity new slot
  pub entries : KeepsEntries old new

-- the slot of a named block
abbrev pub slot_in : ReportedSlot → ℕ
slot_in n = n.slot

-- what entering named blocks on s changes in an arena
pub record IsEntered (C : Cluster) (s : ℕ) (ns : List ReportedSlot) (old new : Contents) : Type 0 where
  pub replicas : replicas_of new ≡ entered_all C (blocks_of old) s ns (replicas_of old)
  pub behind : behind new s ≡ without_all ns (behind old s)
  pub frame : KeepsRest s old new
  pub others : (slot : ℕ) → (IsMember slot (map slot_in ns) → ⊥) → block_at new slot ≡ block_at old slot

-- what entering named blocks on s changes in the counts
pub record IsCounted (C : Cluster) (s : ℕ) (ns : List ReportedSlot) (old new : Contents) (before after : ReportCounts) : Type 0 where
  pub adds_steps : (n : ℕ) → old.steps ≡ saturating_sum before.steps n → new.steps ≡ saturating_sum after.steps n
  pub steps : after.steps + before.removed ≡ before.steps + after.removed + length ns
  pub added : after.added ≡ before.added + fresh C (blocks_of old) s ns (replicas_of old)
  pub removed : after.removed + before.added + len (replicas_of new) ≡ before.removed + after.added + len (replicas_of old)
  pub few_added : after.added ≤ before.added + length ns
  pub few_removed : after.removed ≤ before.removed + length ns
  pub good : after.has_invalid_excess ≡ false → (before.has_invalid_excess ≡ false) × (IsExcessGood (replicas_of old) → IsExcessGood (replicas_of new))

-- the counts after a block was moved, or linked and perhaps removed from a sibling storage
abbrev pub counts_after_move : ReportCounts → Bool → ReportCounts
counts_after_move t is_excess_good = record t { steps = t.steps + 1; has_invalid_excess = t.has_invalid_excess || not is_excess_good }

abbrev pub counts_after_link : ReportCounts → Bool → Bool → ReportCounts
counts_after_link t left_sibling is_excess_good = record {
  added = t.added + 1;
  removed = t.removed + (if left_sibling then 1 else 0);
  steps = t.steps + (if left_sibling then 2 else 1);
  has_invalid_excess = t.has_invalid_excess || not is_excess_good;
}

abbrev pub counts_after_sweep : ReportCounts → ReportCounts
counts_after_sweep t = record t { removed = t.removed + 1; steps = t.steps + 1 }

-- counting n more blocks does not overflow
pub record FitsCounters (t : ReportCounts) (n : ℕ) : Type 0 where
  pub added : t.added + 2 * n < 2 ^ 128
  pub removed : t.removed + 2 * n < 2 ^ 128
  pub steps : t.steps + 2 * n < 2 ^ 128

-- blocks that are not listed are as before, and only slots of numbers are added to the list
pub record IsListed (old new : Contents) (before after : List ℕ) : Type 0 where
  pub same : (slot : ℕ) → (IsMember slot after → ⊥) → block_at new slot ≡ block_at old slot
  pub more : (slot : ℕ) → IsMember slot before → IsMember slot after
  pub only : (slot : ℕ) → IsMember slot after → IsMember slot before ⊎ IsEntry old slot
  pub ids : new.ids ≡ old.ids

-- the slots xs, the first after the delimiter, were removed from the list of s
pub record IsSwept (s : ℕ) (xs : List ℕ) (old new : Contents) (t u : ReportCounts) : Type 0 where
  pub replicas : replicas_of new ≡ out_all s (map (id_at old) xs) (replicas_of old)
  pub ids : new.ids ≡ old.ids
  pub delimiter : new.delimiter ≡ old.delimiter
  pub marker : block_at new old.delimiter ≡ block_at old old.delimiter
  pub blocks : blocks_of new ≡ blocks_of old
  pub known : (slot : ℕ) → known_of (block_at new slot) ≡ known_of (block_at old slot)
  pub heads : (t : ℕ) → HasHead old t → HasHead new t
  pub adds_steps : (n : ℕ) → old.steps ≡ saturating_sum t.steps n → new.steps ≡ saturating_sum u.steps n
  pub added : u.added ≡ t.added
  pub has_invalid_excess : u.has_invalid_excess ≡ t.has_invalid_excess
  pub removed : u.removed ≡ t.removed + length xs
  pub steps : u.steps ≡ t.steps + length xs
  pub lengths : len (replicas_of new) + length xs ≡ len (replicas_of old)
  pub others : (slot : ℕ) → (IsMember slot xs → ⊥) → block_at new slot ≡ block_at old slot
  pub entries : KeepsEntries old new

-- the invalid excess of the named blocks on s was dropped
pub record DropsInvalidExcess (s : ℕ) (ns : List ReportedSlot) (old new : Contents) : Type 0 where
  pub replicas : replicas_of new ≡ invalid_excess_out_all s ns (replicas_of old)
  pub ids : new.ids ≡ old.ids
  pub delimiter : new.delimiter ≡ old.delimiter
  pub marker : block_at new old.delimiter ≡ block_at old old.delimiter
  pub blocks : blocks_of new ≡ blocks_of old
  pub lists : new.lists ≡ old.lists
  pub steps : new.steps ≡ old.steps
  -- a block changes only if its replica on s has invalid excess
  pub others : (slot : ℕ) (m : Marks) → marks_at old slot s ≡ Some m → is_excess_good m ≡ true → block_at new slot ≡ block_at old slot
  pub absent : (slot : ℕ) → marks_at old slot s ≡ None → block_at new slot ≡ block_at old slot
  pub entries : KeepsEntries old new
