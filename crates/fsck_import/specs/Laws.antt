-- Laws of the calls for the blocks of a text. Each block is added once, before any replica. Exactly
-- the replicas of these blocks are reported, each once, and exactly the corrupt ones are marked as
-- corrupt. A node is decommissioned exactly if it drained at the start or has a drained replica.
use Rattle.std.specs.Prelude.{◌≡◌, ◌≤◌, ◌&&◌, ℕ, Bool, true, false, nat_eq, List, [], ◌∷◌, ◌++◌, map, filter, length, count_by, Ok}
use Rattle.std.specs.List.{flat_map, list_any}
use Rattle.std.specs.List.Sorted.{IsPermutation}
use Rattle.std.specs.Str.{bytes_eq}
use Rattle.bm_base.specs.Words.{ReportedBlock, range_from, expanded, has_repeats}
use Rattle.bm_base.specs.declared.call.Call.{Call}
use Rattle.bm_base.specs.declared.call.Call.TheVariants as call
use Rattle.bm_base.specs.declared.event.Event.TheVariants.{AddBlock, FullReport, Received, Corrupt, Drain}
use Rattle.fsck_text.specs.Cuts.{Text}
use Rattle.fsck_text.specs.Wrongs.{after_ok}
use Rattle.fsck_text.specs.declared.list.ListedReplica.{ListedReplica}
use Rattle.fsck_files.specs.Numbers.{has_number}
use Rattle.fsck_files.specs.Replicas as replicas
use Rattle.fsck_files.specs.declared.replicas.Block.{Block}
use Rattle.fsck_cluster.specs.Clusters.{After, after_block}
use Rattle.fsck_cluster.specs.Names.{name_of}
use Rattle.fsck_cluster.specs.declared.cluster.Cluster.{Cluster}
use Rattle.fsck_import.specs.CallsFor.{calls_for}

-- the cluster after these blocks, added one after another
abbrev pub after_blocks : Cluster → List Block → After
after_blocks c [] = Ok c
after_blocks c (b ∷ blocks) = after_ok (λ d. after_blocks d blocks) (after_block c b)

-- a cluster with no block and no storage, and with its nodes numbered from 1 on
pub record IsFresh (c : Cluster) : Type 0 where
  pub nodes : map (λ row. row.number) c.node_rows ≡ range_from 1 (length c.nodes)
  pub storages : c.storages ≡ []
  pub rows : c.rows ≡ []
  pub blocks : c.blocks ≡ []
  pub bad : c.bad ≡ []
  pub draining : (number : ℕ) → has_number c.draining number ≡ true → (1 ≤ number) × (number ≤ length c.nodes)

abbrev pub ids : List Block → List ℕ
ids blocks = map (λ b. b.id) blocks

-- a replica: the name of its storage, and its block with the stamp
pub record Replica : Type 0 where
  pub storage : Text
  pub block : ReportedBlock

abbrev pub replica : Text → ReportedBlock → Replica
replica storage block = record { storage = storage; block = block }

abbrev pub replica_at : Block → ListedReplica → Replica
replica_at b l = replica l.place.storage (record { id = b.id; stamp = b.stamp })

-- the replicas of a block, in order
abbrev pub replicas_of : Block → List Replica
replicas_of b = map (replica_at b) b.replicas

abbrev pub is_corrupt : Block → ListedReplica → Bool
is_corrupt b l = replicas.is_corrupt l.mark b.is_corrupt

-- the corrupt replicas of a block: storage and block
abbrev pub corrupt_of : Block → List (Text × ℕ)
corrupt_of b = map (λ l. (l.place.storage, b.id)) (filter (is_corrupt b) b.replicas)

-- whether the node of a replica drains, by the replica's mark
abbrev pub is_drained : ListedReplica → Bool
is_drained l = replicas.is_draining l.mark

-- the nodes of the drained replicas of a block
abbrev pub drained_of : Block → List Text
drained_of b = map (λ l. l.place.address) (filter is_drained b.replicas)

-- the nodes of a cluster that drain
abbrev pub drained_before : Cluster → List Text
drained_before c = map (name_of c.nodes) c.draining

-- the call that adds a block
abbrev pub add_of : Block → Call
add_of b = call.Apply (AddBlock b.id b.stamp b.wanted)

-- the call itself, if it adds a block
abbrev pub add_in : Call → List Call
add_in (call.Apply (AddBlock id stamp repl)) = call.Apply (AddBlock id stamp repl) ∷ []
add_in _ = []

abbrev pub adds_in : List Call → List Call
adds_in calls = flat_map add_in calls

-- the replicas that a call reports, with the names of their storages
abbrev pub replicas_by : List Text → Call → List Replica
replicas_by names (call.Apply (FullReport storage entries)) = map (replica (name_of names storage)) (expanded entries)
replicas_by names (call.Apply (Received storage id stamp)) = replica (name_of names storage) (record { id = id; stamp = stamp }) ∷ []
replicas_by names _ = []

abbrev pub replicas_reported : List Text → List Call → List Replica
replicas_reported names calls = flat_map (replicas_by names) calls

-- the replica that a call marks as corrupt
abbrev pub corrupt_by : List Text → Call → List (Text × ℕ)
corrupt_by names (call.Apply (Corrupt storage id)) = (name_of names storage, id) ∷ []
corrupt_by names _ = []

abbrev pub called_corrupt : List Text → List Call → List (Text × ℕ)
called_corrupt names calls = flat_map (corrupt_by names) calls

-- the node that a call decommissions
abbrev pub drained_by : List Text → Call → List Text
drained_by names (call.Apply (Drain node)) = name_of names node ∷ []
drained_by names _ = []

abbrev pub drained : List Text → List Call → List Text
drained names calls = flat_map (drained_by names) calls

-- whether a call is about a replica
abbrev pub is_about_replicas : Call → Bool
is_about_replicas (call.Apply (FullReport storage entries)) = true
is_about_replicas (call.Apply (Received storage id stamp)) = true
is_about_replicas (call.Apply (Corrupt storage id)) = true
is_about_replicas _ = false

-- all blocks are added before the first call about a replica
pub record AddsFirst (calls : List Call) : Type 0 where
  pub before : List Call
  pub behind : List Call
  pub parts : calls ≡ before ++ behind
  pub no_replica : list_any is_about_replicas before ≡ false
  pub no_add : adds_in behind ≡ []

-- whether this is the replica of a block on a storage
abbrev pub is_replica : Text → ℕ → Replica → Bool
is_replica storage id r = bytes_eq storage r.storage && nat_eq id r.block.id

-- no storage has two replicas of one block
abbrev pub EachOnce : List Replica → Type 0
EachOnce replicas = (storage : Text) (id : ℕ) → count_by (is_replica storage id) replicas ≤ 1

-- the calls for a cluster describe these blocks, which were added one after another to the start
pub record DescribesBlocks (start : Cluster) (blocks : List Block) (c : Cluster) (remaining : ℕ) : Type 0 where
  -- each is added once, in this order, with its number, its stamp and its wanted replicas
  pub added : adds_in (calls_for c remaining) ≡ map add_of blocks
  pub once : has_repeats (ids blocks) ≡ false
  pub adds_first : AddsFirst (calls_for c remaining)
  -- just their replicas are reported, each once
  pub reported : IsPermutation (flat_map replicas_of blocks) (replicas_reported c.storages (calls_for c remaining))
  pub reported_once : EachOnce (replicas_reported c.storages (calls_for c remaining))
  -- just the corrupt ones are marked as corrupt
  pub corrupt : called_corrupt c.storages (calls_for c remaining) ≡ flat_map corrupt_of blocks
  -- a node is decommissioned if and only if it drained at the start or has a drained replica
  pub drained : (address : Text) → list_any (bytes_eq address) (drained c.nodes (calls_for c remaining))
      ≡ list_any (bytes_eq address) (drained_before start ++ flat_map drained_of blocks)
