-- The checks of a saved node and of a saved block, in their order, and the first that fails. They
-- keep a restored state lawful.
use Rattle.std.specs.Prelude.{◌≡◌, ℕ, ◌+◌, Bool, true, false, not, ◌&&◌, ◌||◌, if◌then◌else◌, ◌==◌, nat_lt, nat_le, List, [], ◌∷◌, map, length, filter_map, Option, Some, None, is_some, is_none, IsSome}
use Rattle.std.specs.Option.{option_map_or}
use Rattle.std.specs.List.{list_any}
use Rattle.bm_base.specs.declared.replica.ReplicaId.{ReplicaId}
use Rattle.bm_base.specs.declared.replica.BlockInfo.{BlockInfo}
use Rattle.bm_base.specs.Words.{get, len, has_repeats, has_some, Cluster, Holdings, is_good, is_stray, node_of, knows_storage, is_bad_replication}
use Rattle.bm_saved.specs.declared.SavedReplica.{SavedReplica}
use Rattle.bm_saved.specs.declared.LoadFault.{LoadFault}
use Rattle.bm_saved.specs.declared.LoadFault.TheVariants.{NotAscending, BadOrder, StorageKnown, TooMany, NothingHeld, BadReplication, UnknownStorage, NodeTwice, WrongTag, WrongExcess, UnknownBlock, FutureRound}
use Rattle.bm_saved.specs.Saved.{SavedBlock, SavedNode}
use Rattle.bm_saved.specs.Restoring.{restore_node, storages_of_node}

-- a check: the fault, and the test by which it is found
infix 5 ◌when◌
abbrev pub ◌when◌ : LoadFault → Bool → LoadFault × Bool
f when b = (f, b)

-- the fault of the first check whose test holds
abbrev pub first_fault : List (LoadFault × Bool) → Option LoadFault
first_fault [] = None
first_fault (c ∷ cs) = if c.1 then Some c.0 else first_fault cs

-- whether a number is above the last one, if there is one
abbrev pub is_above : Option ℕ → ℕ → Bool
is_above last b = option_map_or (λ a. nat_lt a b) last true

-- whether numbers ascend without repeats, from above the last one on
abbrev pub ascend_above : Option ℕ → List ℕ → Bool
ascend_above last [] = true
ascend_above last (x ∷ xs) = is_above last x && ascend_above (Some x) xs

abbrev pub ascend : List ℕ → Bool
ascend xs = ascend_above None xs

-- Nodes.

-- the checks of a node that is read after that of number `last`, for the cluster of the nodes
-- before it
unfoldable pub saved_node_checks : Cluster → Option ℕ → SavedNode → List (LoadFault × Bool)
saved_node_checks C last s =
    (NotAscending when not (is_above last s.node))
    ∷ (BadOrder when not (ascend (storages_of_node s)))
    ∷ (StorageKnown when list_any (knows_storage C) (storages_of_node s))
    ∷ (TooMany when
    (nat_le C.limits.nodes (len C.nodes)
    || nat_lt C.limits.storages (len C.storages + length s.storages)))
    ∷ []

unfoldable pub node_fault : Cluster → Option ℕ → SavedNode → Option LoadFault
node_fault C last s = first_fault (saved_node_checks C last s)

-- none of these nodes has a fault, read one after another
abbrev pub HaveNoNodeFaults : Cluster → Option ℕ → List SavedNode → Type 0
HaveNoNodeFaults C last [] = Unit {0}
HaveNoNodeFaults C last (s ∷ ss) =
    (node_fault C last s ≡ None) × HaveNoNodeFaults (restore_node C s) (Some s.node) ss

-- each node has a number up to the last one that was read
abbrev pub HasNodesUpTo : Option ℕ → Cluster → Type 0
HasNodesUpTo last C = (n : ℕ) → IsSome (get C.nodes n) → is_above last n ≡ false

-- Blocks.

abbrev pub storages_of_block : SavedBlock → List ℕ
storages_of_block s = map (λ r. r.storage) s.replicas

abbrev pub targets_of_block : SavedBlock → List ℕ
targets_of_block s = map (λ t. t.target) s.pending

-- whether one of these storages is not known
abbrev pub has_unknown : Cluster → List ℕ → Bool
has_unknown C ss = list_any (λ s. not (knows_storage C s)) ss

-- whether two of these storages are of one node
abbrev pub share_a_node : Cluster → List ℕ → Bool
share_a_node C ss = has_repeats (filter_map (node_of C) ss)

-- whether a replica is stray though its block is known, or not stray though it is unknown
abbrev pub has_wrong_tag : Option BlockInfo → SavedReplica → Bool
has_wrong_tag info r = if is_some info then is_stray r.marks.tag else not (is_stray r.marks.tag)

-- whether a replica is in excess and not good
abbrev pub has_wrong_excess : SavedReplica → Bool
has_wrong_excess r = r.marks.excess && not (is_good r.marks.tag)

-- the checks of a block that is read after that of number `last`, in this cluster, where `round` is
-- the number of the last round
unfoldable pub saved_block_checks : Cluster → ℕ → Option ℕ → SavedBlock → List (LoadFault × Bool)
saved_block_checks C round last s =
    (NotAscending when not (is_above last s.id))
    ∷ (NothingHeld when (is_none s.info && (length s.replicas == 0)))
    ∷ (BadReplication when has_some s.info (λ i. is_bad_replication i.repl))
    ∷ (UnknownStorage when
    (has_unknown C (storages_of_block s) || has_unknown C (targets_of_block s)))
    ∷ (BadOrder when (not (ascend (storages_of_block s)) || not (ascend (targets_of_block s))))
    ∷ (NodeTwice when share_a_node C (storages_of_block s))
    ∷ (WrongTag when list_any (has_wrong_tag s.info) s.replicas)
    ∷ (WrongExcess when list_any has_wrong_excess s.replicas)
    ∷ (UnknownBlock when (is_none s.info && not (length s.pending == 0)))
    ∷ (FutureRound when list_any (λ t. nat_lt round t.round) s.pending)
    ∷ []

unfoldable pub block_fault : Cluster → ℕ → Option ℕ → SavedBlock → Option LoadFault
block_fault C round last s = first_fault (saved_block_checks C round last s)

-- none of these blocks has a fault, read one after another
abbrev pub HaveNoBlockFaults : Cluster → ℕ → Option ℕ → List SavedBlock → Type 0
HaveNoBlockFaults C round last [] = Unit {0}
HaveNoBlockFaults C round last (s ∷ ss) =
    (block_fault C round last s ≡ None) × HaveNoBlockFaults C round (Some s.id) ss

-- each number of which something is held is up to the last one that was read
pub record HoldsUpTo (last : Option ℕ) (H : Holdings) : Type 0 where
  pub blocks : (b : ℕ) → IsSome (get H.blocks b) → is_above last b ≡ false
  pub replicas : (q : ReplicaId) → IsSome (get H.replicas q) → is_above last q.block ≡ false
  pub pending : (q : ReplicaId) → IsSome (get H.pending q) → is_above last q.block ≡ false
