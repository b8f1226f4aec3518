-- Defines the object that asks for a call, its members in the order in which they are written.
use Rattle.std.proofs.Common.{ℕ, ◌==◌, Bool, true, false, List, [], ◌∷◌, codes}
use Rattle.serde_json.specs.Data.{Data, number, string, array, object, unsigned, Items, no_items, item, Members, no_members, member}
use Rattle.bm_base.specs.declared.replica.Stamp.{Stamp}
use Rattle.bm_base.specs.declared.event.Entry.{Entry}
use Rattle.bm_base.specs.declared.event.Remaining.{Remaining}
use Rattle.bm_base.specs.declared.event.Event.{Event}
use Rattle.bm_base.specs.declared.event.Event.TheVariants.{Register, Heartbeat, Dead, StorageFailed, Drain, Undrain, AddBlock, DeleteBlock, SetReplication, Restamp, Received, Deleted, Corrupt, FullReport}
use Rattle.bm_base.specs.declared.call.Call.{Call}
use Rattle.bm_base.specs.declared.call.Call.TheVariants as call
use Rattle.bm_lines.specs.CallText.{call_op}

abbrev pub whole : ℕ → Data
whole n = number (unsigned n)

-- the array of these values, each as data
abbrev pub items_by : {A : Type 0} → (A → Data) → List A → Items
items_by f [] = no_items
items_by f (x ∷ xs) = item (f x) (items_by f xs)

abbrev pub remaining_data : Remaining → Data
remaining_data r = array (item (whole r.storage) (item (whole r.remaining) no_items))

abbrev pub run_items : Bool → ℕ → ℕ → Items → Items
run_items true from to rest = item (whole from) rest
run_items false from to rest = item (whole from) (item (whole to) rest)

abbrev pub stamp_items : Stamp → Items
stamp_items stamp = item (whole stamp.generation) (item (whole stamp.len) no_items)

abbrev pub entry_data : Entry → Data
entry_data e = array (run_items (e.from == e.to) e.from e.to (stamp_items e.stamp))

abbrev pub numbered : List ℕ → ℕ → Members → Members
numbered name n ms = member name (whole n) ms

abbrev pub stamped : Stamp → Members → Members
stamped stamp ms = numbered (codes "gen") stamp.generation (numbered (codes "len") stamp.len ms)

abbrev pub event_members : Event → Members
event_members (Register node rack storages) = numbered (codes "node") node (numbered (codes "rack") rack (member (codes "storages") (array (items_by whole storages)) no_members))
event_members (Heartbeat node remaining) = numbered (codes "node") node (member (codes "remaining") (array (items_by remaining_data remaining)) no_members)
event_members (Dead node) = numbered (codes "node") node no_members
event_members (StorageFailed storage) = numbered (codes "storage") storage no_members
event_members (Drain node) = numbered (codes "node") node no_members
event_members (Undrain node) = numbered (codes "node") node no_members
event_members (AddBlock id stamp repl) = numbered (codes "id") id (stamped stamp (numbered (codes "repl") repl no_members))
event_members (DeleteBlock id) = numbered (codes "id") id no_members
event_members (SetReplication id repl) = numbered (codes "id") id (numbered (codes "repl") repl no_members)
event_members (Restamp id stamp) = numbered (codes "id") id (stamped stamp no_members)
event_members (Received storage id stamp) = numbered (codes "storage") storage (numbered (codes "id") id (stamped stamp no_members))
event_members (Deleted storage id) = numbered (codes "storage") storage (numbered (codes "id") id no_members)
event_members (Corrupt storage id) = numbered (codes "storage") storage (numbered (codes "id") id no_members)
event_members (FullReport storage entries) = numbered (codes "storage") storage (member (codes "blocks") (array (items_by entry_data entries)) no_members)

abbrev pub call_members : Call → Members
call_members (call.Apply e) = event_members e
call_members (call.BlocksOn storage) = numbered (codes "storage") storage no_members
call_members (call.Places id) = numbered (codes "id") id no_members
call_members (call.LevelOf id) = numbered (codes "id") id no_members
call_members (call.Retired node) = numbered (codes "node") node no_members
call_members _ = no_members

abbrev pub asking_data : Call → Data
asking_data k = object (member (codes "op") (string (call_op k)) (call_members k))
