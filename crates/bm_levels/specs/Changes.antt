-- The marks of replicas after a change: of all of a block, or of those of a list.
use Rattle.std.specs.Prelude.{◌≡◌, ℕ, ◌<◌, ◌≤◌, Bool, true, ◌&&◌, ◌==◌, if◌then◌else◌, List, map, length, slice_index_or}
use Rattle.std.specs.List.{list_any}
use Rattle.std.specs.List.Sorted.{IsNonDecreasingBy}
use Rattle.bm_base.specs.declared.replica.ReplicaId.{ReplicaId}
use Rattle.bm_base.specs.declared.replica.Marks.{Marks}
use Rattle.bm_base.specs.declared.replica.Stamp.{Stamp}
use Rattle.bm_base.specs.declared.replica.BlockInfo.{BlockInfo}
use Rattle.bm_base.specs.declared.commands.Delete.{Delete}
use Rattle.bm_base.specs.Words.{as_stray, as_restamped, is_commanded, Holdings, with_excess_reset, without_unordered_excess}
use Rattle.bm_arena.specs.Contents.{Contents}
use Rattle.bm_arena.specs.HeldMaps.{holdings_of}
use Rattle.bm_levels.specs.declared.mark_changes.MarkChange.{MarkChange}
use Rattle.bm_levels.specs.declared.mark_changes.MarkChange.TheVariants.{Deleted, Restamped, RoundBegun}

-- the marks of a replica after a change
unfoldable pub changed : MarkChange → Marks → Marks
changed Deleted m = as_stray m
changed Restamped m = as_restamped m
changed RoundBegun m = with_excess_reset m

-- the holdings as a round begins: a replica in excess counts again if its delete was not ordered
abbrev pub at_round_start : Contents → Holdings
at_round_start a = without_unordered_excess (holdings_of a)

-- the replicas at a slot, each with its marks changed
abbrev pub all_changed : (Marks → Marks) → List (ℕ × Marks) → List (ℕ × Marks)
all_changed f rs = map (λ r. (r.0, f r.1)) rs

-- as `all_changed`, for a change that depends on the replica's storage
abbrev pub each_changed : (ℕ → Marks → Marks) → List (ℕ × Marks) → List (ℕ × Marks)
each_changed f rs = map (λ r. (r.0, f r.0 r.1)) rs

-- the information on a block, with another stamp, or with another number of wanted replicas
abbrev pub with_stamp : Stamp → BlockInfo → BlockInfo
with_stamp stamp i = record i { stamp = stamp }

abbrev pub with_repl : ℕ → BlockInfo → BlockInfo
with_repl repl i = record i { repl = repl }

-- Replicas of a list.

-- whether the list has this replica, and whether it has one of this block
unfoldable pub has_replica : List ReplicaId → ReplicaId → Bool
has_replica ps q = list_any (λ p. (p.storage == q.storage) && (p.block == q.block)) ps

unfoldable pub has_block : List ReplicaId → ℕ → Bool
has_block ps b = list_any (λ p. p.block == b) ps

-- whether the list has a replica on this storage
unfoldable pub has_storage : List ReplicaId → ℕ → Bool
has_storage ps s = list_any (λ p. p.storage == s) ps

-- all of them are of this block
abbrev pub AreOfBlock : ℕ → List ReplicaId → Type 0
AreOfBlock b ps = (i : ℕ) (d : ReplicaId) → i < length ps → (slice_index_or ps i d).block ≡ b

-- the replicas are sorted by storage, or at least those of each block are
abbrev pub AreByStorage : List ReplicaId → Type 0
AreByStorage ps = IsNonDecreasingBy (λ p. p.storage) ps

abbrev pub AreInOrder : List ReplicaId → Type 0
AreInOrder ps =
    (i j : ℕ) (d : ReplicaId) → i ≤ j → j < length ps → (slice_index_or ps i d).block ≡ (slice_index_or ps j d).block
    → (slice_index_or ps i d).storage ≤ (slice_index_or ps j d).storage

-- the marks of a surplus replica, and of one that is to be deleted
abbrev pub as_excess : Marks → Marks
as_excess m = record m { excess = true }

abbrev pub as_ordered : Marks → Marks
as_ordered m = record m { ordered = true }

-- the marks of a replica on this storage, given a list of the surplus of its block
abbrev pub excess_on : List ReplicaId → ℕ → Marks → Marks
excess_on ps s m = if has_storage ps s then as_excess m else m

-- the marks of a replica once these deletes are ordered
abbrev pub with_deletes_ordered : List Delete → ReplicaId → Marks → Marks
with_deletes_ordered ds q m = if is_commanded ds q then as_ordered m else m
