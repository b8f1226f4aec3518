-- The names of the calls in an input line.
use Rattle.std.specs.Prelude.{ℕ, Bool, true, false, List, if◌then◌else◌, Option, Some, None, codes}
use Rattle.std.specs.Option.{option_or}
use Rattle.std.specs.Str.{bytes_eq}
use Rattle.bm_lines.specs.declared.parser.op.Op.{Op}
use Rattle.bm_lines.specs.declared.parser.op.Op.TheVariants.{Register, Heartbeat, Dead, StorageFailed, Drain, Undrain, Add, Delete, SetReplication, Restamp, Received, Deleted, Corrupt, Report, Round, ListReplicas, ListCorrupt, ListMissing, ListExcess, ListStorage, ListPlaces, Level, Retired}

-- the event of this name
abbrev pub event_of : List ℕ → Option Op
event_of name =
    if bytes_eq name (codes "register") then Some Register
    else (if bytes_eq name (codes "heartbeat") then Some Heartbeat
    else (if bytes_eq name (codes "dead") then Some Dead
    else (if bytes_eq name (codes "storage_failed") then Some StorageFailed
    else (if bytes_eq name (codes "drain") then Some Drain
    else (if bytes_eq name (codes "undrain") then Some Undrain
    else (if bytes_eq name (codes "add") then Some Add
    else (if bytes_eq name (codes "delete") then Some Delete
    else (if bytes_eq name (codes "set_replication") then Some SetReplication
    else (if bytes_eq name (codes "restamp") then Some Restamp
    else (if bytes_eq name (codes "received") then Some Received
    else (if bytes_eq name (codes "deleted") then Some Deleted
    else (if bytes_eq name (codes "corrupt") then Some Corrupt
    else (if bytes_eq name (codes "report") then Some Report
    else None)))))))))))))

-- the round, and the questions
abbrev pub question_of : List ℕ → Option Op
question_of name =
    if bytes_eq name (codes "round") then Some Round
    else (if bytes_eq name (codes "list_replicas") then Some ListReplicas
    else (if bytes_eq name (codes "list_corrupt") then Some ListCorrupt
    else (if bytes_eq name (codes "list_missing") then Some ListMissing
    else (if bytes_eq name (codes "list_excess") then Some ListExcess
    else (if bytes_eq name (codes "list_storage") then Some ListStorage
    else (if bytes_eq name (codes "list_places") then Some ListPlaces
    else (if bytes_eq name (codes "level") then Some Level
    else (if bytes_eq name (codes "retired") then Some Retired
    else None))))))))

-- the op of this name
abbrev pub op_of : List ℕ → Option Op
op_of name = option_or (event_of name) (question_of name)

-- whether one of its fields is a list
abbrev pub has_list : Op → Bool
has_list Register = true
has_list Heartbeat = true
has_list Report = true
has_list _ = false
