-- Notation of scripts: calls of a manager, each with the answer that it gives.
use Rattle.std.specs.Prelude.{◌≡◌, ℕ, true, false, List, [], ◌∷◌, ◌++◌, map, Some, None}
use Rattle.bm_base.specs.declared.config.Config.{Config}
use Rattle.bm_base.specs.declared.limits.Limits.{Limits}
use Rattle.bm_base.specs.declared.replica.Stamp.{Stamp}
use Rattle.bm_base.specs.declared.replica.Tag.{Tag}
use Rattle.bm_base.specs.declared.replica.Replica.{Replica}
use Rattle.bm_base.specs.declared.replica.Level.{Level}
use Rattle.bm_base.specs.declared.event.Entry.{Entry}
use Rattle.bm_base.specs.declared.event.Remaining.{Remaining}
use Rattle.bm_base.specs.declared.event.Event.TheVariants as event
use Rattle.bm_base.specs.declared.commands.Transfer.{Transfer}
use Rattle.bm_base.specs.declared.commands.Delete.{Delete}
use Rattle.bm_base.specs.declared.commands.NodeCommands.{NodeCommands}
use Rattle.bm_base.specs.declared.refusal.Refusal.{Refusal}
use Rattle.bm_base.specs.declared.call.Call.{Call}
use Rattle.bm_base.specs.declared.call.Call.TheVariants as call
use Rattle.bm_base.specs.declared.call.Answer.{Answer}
use Rattle.bm_base.specs.declared.call.Answer.TheVariants as answer
use Rattle.bm_base.specs.Words.{replica_at, standard, standard_limits}
use Rattle.worked_examples.specs.Runs.{run_of}

-- a call with its answer
infix 68 ◌gives◌
abbrev pub ◌gives◌ : Call → Answer → Call × Answer
k gives a = (k, a)

-- from the first state of a configuration within these limits, the calls of a script give the
-- answers in it
abbrev pub HoldsWithin : Limits → Config → List (Call × Answer) → Type 0
HoldsWithin limits config script = run_of limits config (map (λ l. l.0) script) ≡ map (λ l. l.1) script

-- the same within the standard limits
abbrev pub Holds : Config → List (Call × Answer) → Type 0
Holds config script = HoldsWithin standard_limits config script

-- Parts of calls and of answers. Every block is 10 bytes long, and its generation is 1 unless
-- another is given.

abbrev pub stamp : ℕ → Stamp
stamp generation = record { generation = generation; len = 10 }

-- the entries for one block and for a run of blocks
abbrev pub entry : ℕ → ℕ → Entry
entry block generation = record { from = block; to = block; stamp = stamp generation }

abbrev pub run : ℕ → ℕ → ℕ → Entry
run first last generation = record { from = first; to = last; stamp = stamp generation }

abbrev pub remaining : ℕ → ℕ → Remaining
remaining storage bytes = record { storage = storage; remaining = bytes }

abbrev pub replica : ℕ → ℕ → Tag → Replica
replica block storage tag = record { block = block; storage = storage; tag = tag }

-- copy a block from a storage to another
abbrev pub copy : ℕ → ℕ → ℕ → Transfer
copy block source target = record { block = block; stamp = stamp 1; source = source; target = target }

-- delete a block from a storage
abbrev pub delete : ℕ → ℕ → Delete
delete storage block = record { storage = storage; block = block }

-- the commands of a node that has only transfers, or only deletes
abbrev pub copies_by : ℕ → List Transfer → NodeCommands
copies_by node transfers = record { node = node; transfers = transfers; deletes = [] }

abbrev pub deletes_by : ℕ → List Delete → NodeCommands
deletes_by node deletes = record { node = node; transfers = []; deletes = deletes }

-- Calls, each with its fields in the order of the event.

abbrev pub register : ℕ → ℕ → List ℕ → Call
register node rack storages = call.Apply (event.Register node rack storages)

abbrev pub dead : ℕ → Call
dead node = call.Apply (event.Dead node)

abbrev pub storage_failed : ℕ → Call
storage_failed storage = call.Apply (event.StorageFailed storage)

abbrev pub heartbeat : ℕ → List Remaining → Call
heartbeat node rs = call.Apply (event.Heartbeat node rs)

abbrev pub drain : ℕ → Call
drain node = call.Apply (event.Drain node)

abbrev pub undrain : ℕ → Call
undrain node = call.Apply (event.Undrain node)

abbrev pub add_block : ℕ → ℕ → Call
add_block block replication = call.Apply (event.AddBlock block (stamp 1) replication)

abbrev pub delete_block : ℕ → Call
delete_block block = call.Apply (event.DeleteBlock block)

abbrev pub set_replication : ℕ → ℕ → Call
set_replication block replication = call.Apply (event.SetReplication block replication)

abbrev pub restamp : ℕ → ℕ → Call
restamp block generation = call.Apply (event.Restamp block (stamp generation))

abbrev pub received : ℕ → ℕ → Call
received storage block = call.Apply (event.Received storage block (stamp 1))

abbrev pub received_version : ℕ → ℕ → ℕ → Call
received_version storage block generation = call.Apply (event.Received storage block (stamp generation))

abbrev pub deleted : ℕ → ℕ → Call
deleted storage block = call.Apply (event.Deleted storage block)

abbrev pub corrupt : ℕ → ℕ → Call
corrupt storage block = call.Apply (event.Corrupt storage block)

abbrev pub report : ℕ → List Entry → Call
report storage block_entries = call.Apply (event.FullReport storage block_entries)

abbrev pub round : Call
round = call.Round

abbrev pub list_replicas : Call
list_replicas = call.Replicas

abbrev pub list_corrupt : Call
list_corrupt = call.Corrupt

abbrev pub list_excess : Call
list_excess = call.Excess

abbrev pub list_missing : Call
list_missing = call.Missing

abbrev pub list_storage : ℕ → Call
list_storage storage = call.BlocksOn storage

abbrev pub places : ℕ → Call
places block = call.Places block

abbrev pub level : ℕ → Call
level block = call.LevelOf block

abbrev pub retired : ℕ → Call
retired node = call.Retired node

abbrev pub count_calls : Call
count_calls = call.Calls

abbrev pub count_rounds : Call
count_rounds = call.Rounds

-- Answers.

-- an event was accepted, with these numbers of added and removed replicas
abbrev pub ok : ℕ → ℕ → Answer
ok added removed = answer.Done (record { added = added; removed = removed })

-- a round was accepted, with its number and the commands of nodes
abbrev pub commands : ℕ → List NodeCommands → Answer
commands number nodes = answer.Commanded (record { round = number; nodes = nodes })

abbrev pub replicas : List Replica → Answer
replicas rs = answer.Replicas rs

-- replicas as (block, storage)
abbrev pub replica_ids : List (ℕ × ℕ) → Answer
replica_ids ps = answer.ReplicaIds (map (λ p. replica_at p.0 p.1) ps)

abbrev pub blocks : List ℕ → Answer
blocks bs = answer.Blocks bs

abbrev pub storages : List ℕ → Answer
storages ss = answer.Storages ss

abbrev pub at_level : Level → Answer
at_level urgency = answer.LevelIs (Some urgency)

abbrev pub at_no_level : Answer
at_no_level = answer.LevelIs None

-- a node can be removed, or not yet
abbrev pub is_retired : Answer
is_retired = answer.IsRetired true

abbrev pub is_not_retired : Answer
is_not_retired = answer.IsRetired false

abbrev pub number : ℕ → Answer
number n = answer.Number n

abbrev pub refused : Refusal → Answer
refused r = answer.Refused r

-- How scripts begin.

-- three shards and two workers, the rest standard
abbrev pub example_config : Config
example_config = record standard { shards = 3; workers = 2 }

-- four nodes, the first two on rack 1 and the others on rack 2, each with one storage
abbrev pub registrations : List (Call × Answer)
registrations =
    register 1 1 (11 ∷ []) gives ok 0 0
    ∷ register 2 1 (21 ∷ []) gives ok 0 0
    ∷ register 3 2 (31 ∷ []) gives ok 0 0
    ∷ register 4 2 (41 ∷ []) gives ok 0 0
    ∷ []

-- each storage has 1,000 bytes remaining
abbrev pub heartbeats : List (Call × Answer)
heartbeats =
    heartbeat 1 (remaining 11 1000 ∷ []) gives ok 0 0
    ∷ heartbeat 2 (remaining 21 1000 ∷ []) gives ok 0 0
    ∷ heartbeat 3 (remaining 31 1000 ∷ []) gives ok 0 0
    ∷ heartbeat 4 (remaining 41 1000 ∷ []) gives ok 0 0
    ∷ []

-- a script on these four nodes
abbrev pub HoldsOnCluster : Config → List (Call × Answer) → Type 0
HoldsOnCluster config script = Holds config (registrations ++ heartbeats ++ script)
