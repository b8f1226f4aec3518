-- The call that a line asks for.
use Rattle.std.specs.Prelude.{ℕ, List, if◌then◌else◌, Option, Some, None, option_map, option_and_then, codes}
use Rattle.std.specs.Str.{is_utf8}
use Rattle.serde_json.specs.Data.{Data}
use Rattle.serde_json.specs.Read.{read}
use Rattle.serde_json.specs.Find.{get, as_str}
use Rattle.bm_base.specs.declared.replica.Stamp.{Stamp}
use Rattle.bm_base.specs.declared.event.Event.{Event}
use Rattle.bm_base.specs.declared.event.Event.TheVariants.{Register, Heartbeat, Dead, StorageFailed, Drain, Undrain, AddBlock, DeleteBlock, SetReplication, Restamp, Received, Deleted, Corrupt, FullReport}
use Rattle.bm_base.specs.declared.call.Call.{Call}
use Rattle.bm_base.specs.declared.call.Call.TheVariants as call
use Rattle.bm_lines.specs.declared.parser.op.Op.{Op}
use Rattle.bm_lines.specs.declared.parser.op.Op.TheVariants as op
use Rattle.bm_lines.specs.Parser.Op.{op_of}
use Rattle.bm_lines.specs.Parser.Fields.{number_field, small_field, small_list_field, stamp_from, entries_field, remaining_field}

-- the call that applies an event with these fields; None if one is missing

abbrev pub apply_one : {A : Type 0} → (A → Event) → Option A → Option Call
apply_one event (Some a) = Some (call.Apply (event a))
apply_one event _ = None

abbrev pub apply_two : {A B : Type 0} → (A → B → Event) → Option A → Option B → Option Call
apply_two event (Some a) (Some b) = Some (call.Apply (event a b))
apply_two event _ _ = None

abbrev pub apply_three : {A B D : Type 0} → (A → B → D → Event) → Option A → Option B → Option D → Option Call
apply_three event (Some a) (Some b) (Some c) = Some (call.Apply (event a b c))
apply_three event _ _ _ = None

abbrev pub stamp_fields : Data → Option Stamp
stamp_fields d = stamp_from (number_field (codes "gen") d) (number_field (codes "len") d)

-- the call of this name with the fields of the object
abbrev pub call_for : Op → Data → Option Call
call_for op.Register d = apply_three Register (small_field (codes "node") d) (small_field (codes "rack") d) (small_list_field (codes "storages") d)
call_for op.Heartbeat d = apply_two Heartbeat (small_field (codes "node") d) (remaining_field (codes "remaining") d)
call_for op.Dead d = apply_one Dead (small_field (codes "node") d)
call_for op.StorageFailed d = apply_one StorageFailed (small_field (codes "storage") d)
call_for op.Drain d = apply_one Drain (small_field (codes "node") d)
call_for op.Undrain d = apply_one Undrain (small_field (codes "node") d)
call_for op.Add d = apply_three AddBlock (number_field (codes "id") d) (stamp_fields d) (small_field (codes "repl") d)
call_for op.Delete d = apply_one DeleteBlock (number_field (codes "id") d)
call_for op.SetReplication d = apply_two SetReplication (number_field (codes "id") d) (small_field (codes "repl") d)
call_for op.Restamp d = apply_two Restamp (number_field (codes "id") d) (stamp_fields d)
call_for op.Received d = apply_three Received (small_field (codes "storage") d) (number_field (codes "id") d) (stamp_fields d)
call_for op.Deleted d = apply_two Deleted (small_field (codes "storage") d) (number_field (codes "id") d)
call_for op.Corrupt d = apply_two Corrupt (small_field (codes "storage") d) (number_field (codes "id") d)
call_for op.Report d = apply_two FullReport (small_field (codes "storage") d) (entries_field (codes "blocks") d)
call_for op.Round d = Some call.Round
call_for op.ListReplicas d = Some call.Replicas
call_for op.ListCorrupt d = Some call.Corrupt
call_for op.ListMissing d = Some call.Missing
call_for op.ListExcess d = Some call.Excess
call_for op.ListStorage d = option_map call.BlocksOn (small_field (codes "storage") d)
call_for op.ListPlaces d = option_map call.Places (number_field (codes "id") d)
call_for op.Level d = option_map call.LevelOf (number_field (codes "id") d)
call_for op.Retired d = option_map call.Retired (small_field (codes "node") d)

-- an object whose text `op` names a call, and that has its fields
abbrev pub call_of_value : Data → Option Call
call_of_value d = option_and_then (λ o. call_for o d) (option_and_then op_of (option_and_then as_str (get (codes "op") d)))

-- what serde_json reads of a line that is text
unfoldable pub view_of : List ℕ → Option Data
view_of line = if is_utf8 line then read line else None

unfoldable pub call_of : List ℕ → Option Call
call_of line = option_and_then call_of_value (view_of line)
