-- Worked examples: the snapshot of the state that some calls lead to, and each fault of a node and
-- of a block. The texts were made by the rules of the format, without these definitions.
use Rattle.std.specs.Prelude.{◌≡◌, ℕ, false, true, List, [], ◌∷◌, ◌++◌, map, Option, Some, None, codes}
use Rattle.bm_base.specs.declared.call.Call.{Call}
use Rattle.bm_base.specs.declared.call.Call.TheVariants.{Apply, Round}
use Rattle.bm_base.specs.declared.event.Event.TheVariants.{Register, Heartbeat, Drain, AddBlock, Received, Corrupt}
use Rattle.bm_base.specs.declared.event.Remaining.{Remaining}
use Rattle.bm_base.specs.declared.replica.BlockInfo.{BlockInfo}
use Rattle.bm_base.specs.declared.replica.Stamp.{Stamp}
use Rattle.bm_base.specs.declared.replica.Tag.{Tag}
use Rattle.bm_base.specs.declared.replica.Tag.TheVariants.{Good, Stale, Bad, Stray}
use Rattle.bm_base.specs.declared.storage.StorageInfo.{StorageInfo}
use Rattle.bm_base.specs.Words.{insert_all, empty, Cluster}
use Rattle.bm_saved.specs.declared.SavedReplica.{SavedReplica}
use Rattle.bm_saved.specs.declared.SavedTransfer.{SavedTransfer}
use Rattle.bm_saved.specs.declared.LoadFault.{LoadFault}
use Rattle.bm_saved.specs.declared.LoadFault.TheVariants.{NotAscending, BadOrder, StorageKnown, TooMany, NothingHeld, BadReplication, UnknownStorage, NodeTwice, WrongTag, WrongExcess, UnknownBlock, FutureRound}
use Rattle.bm_saved.specs.Saved.{SavedNode}
use Rattle.bm_saved.specs.Runs.{snapshot_after, fault_of_node, fault_of_block}

-- Texts.

abbrev pub stamp : ℕ → ℕ → Stamp
stamp generation len = record { generation = generation; len = len }

abbrev pub remaining : ℕ → ℕ → Remaining
remaining storage bytes = record { storage = storage; remaining = bytes }

-- Four nodes on two racks. A replica of block 7 is corrupt, so the round commands a copy. Block 8
-- has one good replica too many and a stale one, and number 9 is stray: the round commands three
-- deletes. Then node 4 drains.
abbrev pub calls : List Call
calls =
    Apply (Register 1 1 (11 ∷ []))
    ∷ Apply (Register 2 1 (21 ∷ []))
    ∷ Apply (Register 3 2 (31 ∷ 32 ∷ []))
    ∷ Apply (Register 4 2 (41 ∷ []))
    ∷ Apply (Heartbeat 2 (remaining 21 1000 ∷ []))
    ∷ Apply (Heartbeat 4 (remaining 41 1000 ∷ []))
    ∷ Apply (AddBlock 7 (stamp 1 64) 2)
    ∷ Apply (AddBlock 8 (stamp 3 10) 1)
    ∷ Apply (Received 11 7 (stamp 1 64))
    ∷ Apply (Received 31 7 (stamp 1 64))
    ∷ Apply (Corrupt 11 7)
    ∷ Apply (Received 11 8 (stamp 3 10))
    ∷ Apply (Received 21 8 (stamp 3 10))
    ∷ Apply (Received 32 8 (stamp 2 10))
    ∷ Apply (Received 41 9 (stamp 1 1))
    ∷ Round
    ∷ Apply (Drain 4)
    ∷ []

abbrev pub text : List ℕ
text =
    codes "{\"snapshot\":1,\"work\":2,\"invalidate\":1000,\"pend\":100,\"nodes\":256,\"storages\":4096,\"round\":1,\"calls\":17}\n"
    ++ codes "{\"node\":1,\"rack\":1,\"drains\":false,\"storages\":[[11,0]]}\n"
    ++ codes "{\"node\":2,\"rack\":1,\"drains\":false,\"storages\":[[21,1000]]}\n"
    ++ codes "{\"node\":3,\"rack\":2,\"drains\":false,\"storages\":[[31,0],[32,0]]}\n"
    ++ codes "{\"node\":4,\"rack\":2,\"drains\":true,\"storages\":[[41,1000]]}\n"
    ++ codes "{\"block\":7,\"gen\":1,\"len\":64,\"repl\":2,\"replicas\":[[11,\"bad\"],31],\"pending\":[[21,1]]}\n"
    ++ codes "{\"block\":8,\"gen\":3,\"len\":10,\"repl\":1,\"replicas\":[[11,\"excess\",\"ordered\"],21,[32,\"stale\",\"ordered\"]]}\n"
    ++ codes "{\"stray\":9,\"replicas\":[[41,\"ordered\"]]}\n"
    ++ codes "{\"end\":3,\"sum\":7277750132794533765}\n"

abbrev pub snapshot_of_all_words : Type 0
snapshot_of_all_words = snapshot_after calls ≡ text

abbrev pub snapshot_of_empty_lists : Type 0
snapshot_of_empty_lists =
    snapshot_after (Apply (Register 5 3 []) ∷ Apply (AddBlock 6 (stamp 1 5) 1) ∷ []) ≡ (
    codes "{\"snapshot\":1,\"work\":2,\"invalidate\":1000,\"pend\":100,\"nodes\":256,\"storages\":4096,\"round\":0,\"calls\":2}\n"
    ++ codes "{\"node\":5,\"rack\":3,\"drains\":false,\"storages\":[]}\n"
    ++ codes "{\"block\":6,\"gen\":1,\"len\":5,\"repl\":1,\"replicas\":[]}\n"
    ++ codes "{\"end\":1,\"sum\":13482905429058904388}\n")

-- Faults.

abbrev pub on : ℕ → StorageInfo
on node = record { node = node; remaining = 0 }

-- Node 1 with the storages 11 and 12, and node 2 with 21, within these limits.
abbrev pub two_nodes : ℕ → ℕ → Cluster
two_nodes nodes storages = record {
  limits = record { nodes = nodes; storages = storages };
  nodes = insert_all empty ((1, 1) ∷ (2, 2) ∷ []);
  draining = empty;
  storages = insert_all empty ((11, on 1) ∷ (12, on 1) ∷ (21, on 2) ∷ []);
}

abbrev pub node : ℕ → List ℕ → SavedNode
node n ss = record { node = n; rack = 1; drains = false; storages = map (λ s. remaining s 5) ss }

-- node 3 with these storages, after node 2
abbrev pub third : ℕ → ℕ → List ℕ → Option LoadFault
third nodes storages ss = fault_of_node (two_nodes nodes storages) (Some 2) (node 3 ss)

abbrev pub faults_of_nodes : Type 0
faults_of_nodes =
    (third 3 5 (31 ∷ 32 ∷ []) ≡ None)
    × (fault_of_node (two_nodes 3 5) None (node 0 (5 ∷ [])) ≡ None)
    × (fault_of_node (two_nodes 3 5) (Some 2) (node 2 (31 ∷ 31 ∷ [])) ≡ Some NotAscending)
    × (third 3 5 (32 ∷ 31 ∷ []) ≡ Some BadOrder)
    × (third 3 5 (21 ∷ 21 ∷ []) ≡ Some BadOrder)
    × (third 2 5 (21 ∷ []) ≡ Some StorageKnown)
    × (third 2 5 [] ≡ Some TooMany)
    × (third 3 4 (31 ∷ 32 ∷ []) ≡ Some TooMany)

abbrev pub plain : Tag → ℕ → SavedReplica
plain tag s = record { storage = s; marks = record { tag = tag; excess = false; ordered = false } }

abbrev pub in_excess : Tag → ℕ → SavedReplica
in_excess tag s = record { storage = s; marks = record { tag = tag; excess = true; ordered = false } }

abbrev pub to : ℕ → ℕ → SavedTransfer
to target round = record { target = target; round = round }

abbrev pub wanted : ℕ → Option BlockInfo
wanted repl = Some (record { stamp = stamp 1 5; repl = repl })

-- block 6 after block 5, on two nodes, where the last round was round 4
abbrev pub sixth : Option BlockInfo → List SavedReplica → List SavedTransfer → Option LoadFault
sixth info replicas pending =
    fault_of_block (two_nodes 2 3) 4 (Some 5)
    (record { id = 6; info = info; replicas = replicas; pending = pending })

abbrev pub faults_of_blocks : Type 0
faults_of_blocks =
    (sixth (wanted 16) (in_excess Good 11 ∷ plain Stale 21 ∷ []) (to 12 4 ∷ to 21 1 ∷ []) ≡ None)
    × (sixth None (plain Stray 11 ∷ []) [] ≡ None)
    × (fault_of_block (two_nodes 2 3) 4 (Some 6) (record { id = 6; info = None; replicas = []; pending = [] }) ≡ Some NotAscending)
    × (sixth None [] (to 99 1 ∷ []) ≡ Some NothingHeld)
    × (sixth (wanted 0) (plain Good 99 ∷ []) [] ≡ Some BadReplication)
    × (sixth (wanted 17) (plain Good 99 ∷ []) [] ≡ Some BadReplication)
    × (sixth (wanted 1) (plain Good 99 ∷ plain Good 11 ∷ []) [] ≡ Some UnknownStorage)
    × (sixth (wanted 1) [] (to 99 1 ∷ to 11 1 ∷ []) ≡ Some UnknownStorage)
    × (sixth (wanted 1) (plain Good 12 ∷ plain Good 11 ∷ []) [] ≡ Some BadOrder)
    × (sixth (wanted 1) (plain Good 11 ∷ plain Good 11 ∷ []) [] ≡ Some BadOrder)
    × (sixth (wanted 1) [] (to 21 5 ∷ to 11 1 ∷ []) ≡ Some BadOrder)
    × (sixth (wanted 1) (plain Good 11 ∷ plain Stray 12 ∷ []) [] ≡ Some NodeTwice)
    × (sixth (wanted 1) (plain Good 11 ∷ in_excess Stray 21 ∷ []) [] ≡ Some WrongTag)
    × (sixth None (plain Stray 11 ∷ in_excess Bad 21 ∷ []) [] ≡ Some WrongTag)
    × (sixth (wanted 1) (in_excess Stale 11 ∷ []) (to 21 5 ∷ []) ≡ Some WrongExcess)
    × (sixth None (plain Stray 11 ∷ []) (to 21 5 ∷ []) ≡ Some UnknownBlock)
    × (sixth (wanted 1) [] (to 21 5 ∷ []) ≡ Some FutureRound)
