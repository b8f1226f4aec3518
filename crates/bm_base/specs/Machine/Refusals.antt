-- Which call is refused, and why: the checks in their order, and the first that fails.
use Rattle.std.specs.Prelude.{ℕ, ◌+◌, Bool, not, ◌&&◌, ◌||◌, if◌then◌else◌, ◌==◌, nat_lt, nat_le, List, [], ◌∷◌, length, Option, Some, None}
use Rattle.std.specs.List.{list_any}
use Rattle.bm_base.specs.declared.replica.Stamp.{Stamp}
use Rattle.bm_base.specs.declared.limits.TheConstants.{MAX_ENTRIES, MAX_NUMBERS, MAX_REPLICATION}
use Rattle.bm_base.specs.declared.event.Entry.{Entry}
use Rattle.bm_base.specs.declared.event.Event.{Event}
use Rattle.bm_base.specs.declared.event.Event.TheVariants.{Register, Dead, StorageFailed, Heartbeat, Drain, Undrain, AddBlock, DeleteBlock, SetReplication, Restamp, Received, Deleted, Corrupt, FullReport}
use Rattle.bm_base.specs.declared.refusal.Refusal.{Refusal}
use Rattle.bm_base.specs.declared.refusal.Refusal.TheVariants.{UnknownNode, NodeKnown, UnknownStorage, StorageKnown, UnknownBlock, BlockKnown, StillStored, BadReplication, OldGeneration, TooMany, NotItsStorage, RoundsSpent, CallsSpent, Memory, BadConfig}
use Rattle.bm_base.specs.Maps.Map.{get, contains_key, entries, len}
use Rattle.bm_base.specs.Machine.State.{Cluster, Holdings, State}
use Rattle.bm_base.specs.Maps.Lists.{has_repeats, has_some}
use Rattle.bm_base.specs.Machine.Replicas.{is_stray, has_storage}
use Rattle.bm_base.specs.Machine.Entries.{numbers_in}

abbrev pub refusal_number : Refusal → ℕ
refusal_number UnknownNode = 1
refusal_number NodeKnown = 2
refusal_number UnknownStorage = 3
refusal_number StorageKnown = 4
refusal_number UnknownBlock = 5
refusal_number BlockKnown = 6
refusal_number StillStored = 7
refusal_number BadReplication = 8
refusal_number OldGeneration = 9
refusal_number TooMany = 10
refusal_number NotItsStorage = 11
refusal_number RoundsSpent = 12
refusal_number CallsSpent = 13
refusal_number Memory = 14
refusal_number BadConfig = 15

-- a check: the refusal, and the test by which it is given
infix 5 ◌when◌
abbrev pub ◌when◌ : Refusal → Bool → Refusal × Bool
r when b = (r, b)

-- the refusal of the first check whose test holds
abbrev pub first_of : List (Refusal × Bool) → Option Refusal
first_of [] = None
first_of (c ∷ cs) = if c.1 then Some c.0 else first_of cs

-- the first of two refusals
infixr 4 ◌before◌
abbrev pub ◌before◌ : Option Refusal → Option Refusal → Option Refusal
None before y = y
(Some r) before y = Some r

unfoldable pub knows_node : Cluster → ℕ → Bool
knows_node C n = contains_key C.nodes n

unfoldable pub knows_storage : Cluster → ℕ → Bool
knows_storage C s = contains_key C.storages s

unfoldable pub knows_block : Holdings → ℕ → Bool
knows_block H b = contains_key H.blocks b

-- whether a stray replica of this block number exists
unfoldable pub is_still_stored : Holdings → ℕ → Bool
is_still_stored H b = list_any (λ e. (e.0.block == b) && is_stray e.1.tag) (entries H.replicas)

abbrev pub is_bad_replication : ℕ → Bool
is_bad_replication repl = (repl == 0) || nat_lt MAX_REPLICATION repl

-- whether the generation is not greater than the block's
unfoldable pub is_old : Holdings → ℕ → Stamp → Bool
is_old H b stamp = has_some (get H.blocks b) (λ i. nat_le stamp.generation i.stamp.generation)

-- whether a full report has too many entries, or names too many numbers, repeats counted
unfoldable pub is_too_long : List Entry → Bool
is_too_long es = nat_lt MAX_ENTRIES (length es) || nat_lt MAX_NUMBERS (numbers_in es)

-- the greatest u64, 2^64 - 1, at which rounds and calls are spent
abbrev pub last_number : ℕ
last_number = 18446744073709551615

-- The checks of an event on the cluster, in their order. They come before its checks on the blocks.
unfoldable pub cluster_checks : Cluster → Event → List (Refusal × Bool)
cluster_checks C (Register n rack ss) =
    (NodeKnown when knows_node C n)
    ∷ (StorageKnown when (has_repeats ss || list_any (knows_storage C) ss))
    ∷ (TooMany when
    (nat_le C.limits.nodes (len C.nodes)
    || nat_lt C.limits.storages (len C.storages + length ss)))
    ∷ []
cluster_checks C (Dead n) = (UnknownNode when not (knows_node C n)) ∷ []
cluster_checks C (StorageFailed s) = (UnknownStorage when not (knows_storage C s)) ∷ []
cluster_checks C (Heartbeat n rs) =
    (UnknownNode when not (knows_node C n))
    ∷ (UnknownStorage when list_any (λ r. not (knows_storage C r.storage)) rs)
    ∷ (NotItsStorage when list_any (λ r. not (has_storage C n r.storage)) rs)
    ∷ []
cluster_checks C (Drain n) = (UnknownNode when not (knows_node C n)) ∷ []
cluster_checks C (Undrain n) = (UnknownNode when not (knows_node C n)) ∷ []
cluster_checks C (Received s b stamp) = (UnknownStorage when not (knows_storage C s)) ∷ []
cluster_checks C (Deleted s b) = (UnknownStorage when not (knows_storage C s)) ∷ []
cluster_checks C (Corrupt s b) = (UnknownStorage when not (knows_storage C s)) ∷ []
cluster_checks C (FullReport s es) =
    (UnknownStorage when not (knows_storage C s))
    ∷ (TooMany when is_too_long es)
    ∷ []
cluster_checks C _ = []

-- the checks of an event on the blocks, in their order
unfoldable pub block_checks : Holdings → Event → List (Refusal × Bool)
block_checks H (AddBlock b stamp repl) =
    (BlockKnown when knows_block H b)
    ∷ (StillStored when is_still_stored H b)
    ∷ (BadReplication when is_bad_replication repl)
    ∷ []
block_checks H (DeleteBlock b) = (UnknownBlock when not (knows_block H b)) ∷ []
block_checks H (SetReplication b repl) =
    (UnknownBlock when not (knows_block H b))
    ∷ (BadReplication when is_bad_replication repl)
    ∷ []
block_checks H (Restamp b stamp) =
    (UnknownBlock when not (knows_block H b))
    ∷ (OldGeneration when is_old H b stamp)
    ∷ []
block_checks H (Corrupt s b) = (UnknownBlock when not (knows_block H b)) ∷ []
block_checks H _ = []

-- the refusal if no further call can be counted
unfoldable pub calls_spent : State → Option Refusal
calls_spent M = first_of ((CallsSpent when nat_le last_number M.calls) ∷ [])

-- the first refusal of an event, `Memory` aside
unfoldable pub refusal_of : State → Event → Option Refusal
refusal_of M e =
    first_of (cluster_checks M.cluster e)
    before first_of (block_checks M.holdings e)
    before calls_spent M

-- the refusal of a round
unfoldable pub round_refusal : State → Option Refusal
round_refusal M = first_of ((RoundsSpent when nat_le last_number M.round) ∷ []) before calls_spent M

-- the refusals of a query about a node, about a storage, and about a block
unfoldable pub node_refusal : Cluster → ℕ → Option Refusal
node_refusal C n = first_of ((UnknownNode when not (knows_node C n)) ∷ [])

unfoldable pub storage_refusal : Cluster → ℕ → Option Refusal
storage_refusal C s = first_of ((UnknownStorage when not (knows_storage C s)) ∷ [])

unfoldable pub block_refusal : Holdings → ℕ → Option Refusal
block_refusal H b = first_of ((UnknownBlock when not (knows_block H b)) ∷ [])
