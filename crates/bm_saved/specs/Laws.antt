-- The laws of saving and restoring.
use Rattle.std.specs.Prelude.{◌≡◌, ℕ, ◌≤◌, ◌==◌, if◌then◌else◌, List, [], ◌∷◌, ◌++◌, Option, Some, None}
use Rattle.bm_base.specs.declared.call.Call.{Call}
use Rattle.bm_base.specs.declared.event.Event.TheVariants.{Register}
use Rattle.bm_base.specs.declared.limits.Limits.{Limits}
use Rattle.bm_base.specs.declared.replica.ReplicaId.{ReplicaId}
use Rattle.bm_base.specs.Words.{get, first_of, cluster_checks, Cluster, Holdings, State, empty_cluster, empty_holdings, answers, state_after}
use Rattle.bm_base.specs.Promises.Lawful.{IsLawful, IsLawfulCluster, IsLawfulHoldings}
use Rattle.bm_base.specs.Shards.{shard_of, cut}
use Rattle.bm_saved.specs.Saved.{SavedBlock, SavedNode, saved_blocks, saved_nodes}
use Rattle.bm_saved.specs.Restoring.{restore_block, restore_blocks, restore_node, restore_nodes, restore_node_by_events, restored_state, storages_of_node}
use Rattle.bm_saved.specs.SavedText.{text_of_lines, snapshot_text}
use Rattle.bm_saved.specs.Faults.{node_fault, block_fault, HaveNoNodeFaults, HaveNoBlockFaults, HasNodesUpTo, HoldsUpTo}

-- the pending transfers were commanded in this round or before it
abbrev pub AreCommandedBy : ℕ → Holdings → Type 0
AreCommandedBy round H = (q : ReplicaId) (r : ℕ) → get H.pending q ≡ Some r → r ≤ round

-- Nodes.

-- restoring all nodes of a lawful cluster, from an empty one with its limits on, gives the cluster
abbrev pub cluster_is_restored : Type 0
cluster_is_restored =
    (C : Cluster) → IsLawfulCluster C → restore_nodes (empty_cluster C.limits) (saved_nodes C) ≡ C

-- none of these nodes has a fault
abbrev pub saved_nodes_have_no_faults : Type 0
saved_nodes_have_no_faults =
    (C : Cluster) → IsLawfulCluster C
    → HaveNoNodeFaults (empty_cluster C.limits) None (saved_nodes C)

-- a node without a fault leaves a lawful cluster lawful, and the next one has to have a greater
-- number
abbrev pub restored_node_is_lawful : Type 0
restored_node_is_lawful =
    (C : Cluster) (last : Option ℕ) (s : SavedNode)
    → IsLawfulCluster C → HasNodesUpTo last C → node_fault C last s ≡ None
    → IsLawfulCluster (restore_node C s) × HasNodesUpTo (Some s.node) (restore_node C s)

-- saving a cluster with a restored node gives what was saved before, and then the node
abbrev pub restored_node_is_saved : Type 0
restored_node_is_saved =
    (C : Cluster) (last : Option ℕ) (s : SavedNode)
    → IsLawfulCluster C → HasNodesUpTo last C → node_fault C last s ≡ None
    → saved_nodes (restore_node C s) ≡ saved_nodes C ++ (s ∷ [])

-- nodes without faults make a lawful cluster, of which they are saved again
abbrev pub restored_nodes_are_saved : Type 0
restored_nodes_are_saved =
    (l : Limits) (ss : List SavedNode) → HaveNoNodeFaults (empty_cluster l) None ss
    → IsLawfulCluster (restore_nodes (empty_cluster l) ss)
    × (saved_nodes (restore_nodes (empty_cluster l) ss) ≡ ss)

-- a node without a fault may register, and it is restored by events
abbrev pub node_is_restored_by_events : Type 0
node_is_restored_by_events =
    (C : Cluster) (last : Option ℕ) (s : SavedNode)
    → IsLawfulCluster C → HasNodesUpTo last C → node_fault C last s ≡ None
    → (first_of (cluster_checks C (Register s.node s.rack (storages_of_node s))) ≡ None)
    × (restore_node_by_events C s ≡ restore_node C s)

-- Blocks.

-- restoring all that is saved of holdings, from empty ones on, gives the holdings
abbrev pub holdings_are_restored : Type 0
holdings_are_restored = (H : Holdings) → restore_blocks empty_holdings (saved_blocks H) ≡ H

-- no block that is saved of lawful holdings has a fault
abbrev pub saved_blocks_have_no_faults : Type 0
saved_blocks_have_no_faults =
    (C : Cluster) (H : Holdings) (round : ℕ)
    → IsLawfulHoldings C H → AreCommandedBy round H
    → HaveNoBlockFaults C round None (saved_blocks H)

-- a block without a fault leaves lawful holdings lawful
abbrev pub restored_block_is_lawful : Type 0
restored_block_is_lawful =
    (C : Cluster) (H : Holdings) (round : ℕ) (last : Option ℕ) (s : SavedBlock)
    → IsLawfulHoldings C H → HoldsUpTo last H → block_fault C round last s ≡ None
    → IsLawfulHoldings C (restore_block H s)

-- none of its transfers is of a future round, and the next block has to have a greater number
abbrev pub restored_block_is_in_order : Type 0
restored_block_is_in_order =
    (C : Cluster) (H : Holdings) (round : ℕ) (last : Option ℕ) (s : SavedBlock)
    → AreCommandedBy round H → HoldsUpTo last H → block_fault C round last s ≡ None
    → AreCommandedBy round (restore_block H s) × HoldsUpTo (Some s.id) (restore_block H s)

-- saving holdings with a restored block gives what was saved before, and then the block
abbrev pub restored_block_is_saved : Type 0
restored_block_is_saved =
    (C : Cluster) (H : Holdings) (round : ℕ) (last : Option ℕ) (s : SavedBlock)
    → HoldsUpTo last H → block_fault C round last s ≡ None
    → saved_blocks (restore_block H s) ≡ saved_blocks H ++ (s ∷ [])

-- blocks without faults make lawful holdings, of which they are saved again
abbrev pub restored_blocks_are_saved : Type 0
restored_blocks_are_saved =
    (C : Cluster) (round : ℕ) (ss : List SavedBlock) → HaveNoBlockFaults C round None ss
    → IsLawfulHoldings C (restore_blocks empty_holdings ss)
    × AreCommandedBy round (restore_blocks empty_holdings ss)
    × (saved_blocks (restore_blocks empty_holdings ss) ≡ ss)

-- a restored block changes the part of its shard alone
abbrev pub restored_in_one_part : Type 0
restored_in_one_part =
    (H : Holdings) (s : SavedBlock) (index shards : ℕ)
    → cut (restore_block H s) index shards
    ≡ (if shard_of s.id shards == index then restore_block (cut H index shards) s else cut H index shards)

-- States.

-- restoring all that is saved of a lawful state gives the state
abbrev pub state_is_restored : Type 0
state_is_restored =
    (M : State) → IsLawful M
    → restored_state M (saved_nodes M.cluster) (saved_blocks M.holdings) ≡ M

-- lines without faults are the snapshot of the state that they make
abbrev pub lines_are_a_snapshot : Type 0
lines_are_a_snapshot =
    (M : State) (ns : List SavedNode) (bs : List SavedBlock)
    → HaveNoNodeFaults (empty_cluster M.cluster.limits) None ns
    → HaveNoBlockFaults (restored_state M ns bs).cluster M.round None bs
    → snapshot_text (restored_state M ns bs) ≡ text_of_lines M ns bs

-- Later calls.

-- calls after other calls are answered as if the state that those left had been saved and loaded
abbrev pub replay_goes_on : Type 0
replay_goes_on =
    (M : State) (ks js : List Call)
    → (state_after M (ks ++ js) ≡ state_after (state_after M ks) js)
    × (answers M (ks ++ js) ≡ answers M ks ++ answers (state_after M ks) js)
