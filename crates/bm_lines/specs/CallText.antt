-- The line that asks for a call, without its line end: its op, and then the fields of that op in
-- the order of docs/FORMATS.md, with no space.
use Rattle.std.specs.Prelude.{ℕ, ◌==◌, Bool, true, false, List, [], ◌∷◌, ◌++◌, if◌then◌else◌, codes, decimal}
use Rattle.std.specs.List.{flat_map}
use Rattle.bm_base.specs.declared.replica.Stamp.{Stamp}
use Rattle.bm_base.specs.declared.event.Entry.{Entry}
use Rattle.bm_base.specs.declared.event.Remaining.{Remaining}
use Rattle.bm_base.specs.declared.event.Event.{Event}
use Rattle.bm_base.specs.declared.event.Event.TheVariants.{Register, Heartbeat, Dead, StorageFailed, Drain, Undrain, AddBlock, DeleteBlock, SetReplication, Restamp, Received, Deleted, Corrupt, FullReport}
use Rattle.bm_base.specs.declared.call.Call.{Call}
use Rattle.bm_base.specs.declared.call.Call.TheVariants as call

-- whether there is an op that asks for the call: there is none for `Calls` and `Rounds`
abbrev pub has_op : Call → Bool
has_op call.Calls = false
has_op call.Rounds = false
has_op _ = true

abbrev pub event_op : Event → List ℕ
event_op (Register node rack storages) = codes "register"
event_op (Heartbeat node remaining) = codes "heartbeat"
event_op (Dead node) = codes "dead"
event_op (StorageFailed storage) = codes "storage_failed"
event_op (Drain node) = codes "drain"
event_op (Undrain node) = codes "undrain"
event_op (AddBlock id stamp repl) = codes "add"
event_op (DeleteBlock id) = codes "delete"
event_op (SetReplication id repl) = codes "set_replication"
event_op (Restamp id stamp) = codes "restamp"
event_op (Received storage id stamp) = codes "received"
event_op (Deleted storage id) = codes "deleted"
event_op (Corrupt storage id) = codes "corrupt"
event_op (FullReport storage entries) = codes "report"

abbrev pub call_op : Call → List ℕ
call_op (call.Apply e) = event_op e
call_op call.Round = codes "round"
call_op call.Replicas = codes "list_replicas"
call_op call.Corrupt = codes "list_corrupt"
call_op call.Missing = codes "list_missing"
call_op call.Excess = codes "list_excess"
call_op (call.BlocksOn storage) = codes "list_storage"
call_op (call.Places id) = codes "list_places"
call_op (call.LevelOf id) = codes "level"
call_op (call.Retired node) = codes "retired"
call_op call.Calls = []
call_op call.Rounds = []

-- Fields, one after another: a name, and a number or a list.

abbrev pub number_text : List ℕ → ℕ → List ℕ
number_text name n = codes ",\"" ++ (name ++ (codes "\":" ++ decimal n))

-- items with a comma between each two
abbrev pub with_commas : {A : Type 0} → (A → List ℕ) → List A → List ℕ
with_commas text [] = []
with_commas text (x ∷ xs) = text x ++ flat_map (λ y. codes "," ++ text y) xs

unfoldable pub list_text : {A : Type 0} → List ℕ → (A → List ℕ) → List A → List ℕ
list_text name text xs = codes ",\"" ++ (name ++ (codes "\":[" ++ (with_commas text xs ++ codes "]")))

abbrev pub stamp_text : Stamp → List ℕ
stamp_text stamp = number_text (codes "gen") stamp.generation ++ number_text (codes "len") stamp.len

-- an item of a heartbeat: a storage, and the bytes remaining there
unfoldable pub remaining_text : Remaining → List ℕ
remaining_text r = codes "[" ++ (decimal r.storage ++ (codes "," ++ (decimal r.remaining ++ codes "]")))

-- the blocks of an item of a report: one, or the first and the last of a run
abbrev pub run_text : ℕ → ℕ → List ℕ
run_text from to = if from == to then decimal from else decimal from ++ (codes "," ++ decimal to)

-- an item of a report
unfoldable pub entry_text : Entry → List ℕ
entry_text e = codes "[" ++ (run_text e.from e.to ++ (codes "," ++ (decimal e.stamp.generation ++ (codes "," ++ (decimal e.stamp.len ++ codes "]")))))

abbrev pub event_fields : Event → List ℕ
event_fields (Register node rack storages) =
    number_text (codes "node") node ++ (number_text (codes "rack") rack ++ list_text (codes "storages") decimal storages)
event_fields (Heartbeat node remaining) = number_text (codes "node") node ++ list_text (codes "remaining") remaining_text remaining
event_fields (Dead node) = number_text (codes "node") node
event_fields (StorageFailed storage) = number_text (codes "storage") storage
event_fields (Drain node) = number_text (codes "node") node
event_fields (Undrain node) = number_text (codes "node") node
event_fields (AddBlock id stamp repl) = number_text (codes "id") id ++ (stamp_text stamp ++ number_text (codes "repl") repl)
event_fields (DeleteBlock id) = number_text (codes "id") id
event_fields (SetReplication id repl) = number_text (codes "id") id ++ number_text (codes "repl") repl
event_fields (Restamp id stamp) = number_text (codes "id") id ++ stamp_text stamp
event_fields (Received storage id stamp) = number_text (codes "storage") storage ++ (number_text (codes "id") id ++ stamp_text stamp)
event_fields (Deleted storage id) = number_text (codes "storage") storage ++ number_text (codes "id") id
event_fields (Corrupt storage id) = number_text (codes "storage") storage ++ number_text (codes "id") id
event_fields (FullReport storage entries) = number_text (codes "storage") storage ++ list_text (codes "blocks") entry_text entries

abbrev pub call_fields : Call → List ℕ
call_fields (call.Apply e) = event_fields e
call_fields (call.BlocksOn storage) = number_text (codes "storage") storage
call_fields (call.Places id) = number_text (codes "id") id
call_fields (call.LevelOf id) = number_text (codes "id") id
call_fields (call.Retired node) = number_text (codes "node") node
call_fields _ = []

unfoldable pub line_text : Call → List ℕ
line_text k = codes "{\"op\":\"" ++ (call_op k ++ (codes "\"" ++ (call_fields k ++ codes "}")))
