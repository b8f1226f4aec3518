-- The call that the fields after an op ask for, in canonical form.
use Rattle.std.specs.Prelude.{◌≡◌, ℕ, true, List, ◌++◌, codes}
use Rattle.bm_base.specs.declared.call.Call.{Call}
use Rattle.bm_lines.specs.declared.parser.op.Op.{Op}
use Rattle.bm_lines.specs.declared.parser.op.Op.TheVariants.{Register, Heartbeat, Dead, StorageFailed, Drain, Undrain, Add, Delete, SetReplication, Restamp, Received, Deleted, Corrupt, Report, Round, ListReplicas, ListCorrupt, ListMissing, ListExcess, ListStorage, ListPlaces, Level, Retired}
use Rattle.bm_lines.specs.CallText.{has_op, call_op, call_fields}
use Rattle.bm_lines.specs.FittingNumbers.{FitsWhole}

-- the op is that of the call, and the fields are those of the call and then the end of the line
pub record Asks (op fields : List ℕ) (k : Call) : Type 0 where
  pub named : call_op k ≡ op
  pub same : fields ≡ call_fields k ++ codes "}"
  pub fits : FitsWhole k
  pub some : has_op k ≡ true

-- how an op is written
abbrev pub op_text : Op → List ℕ
op_text Register = codes "register"
op_text Heartbeat = codes "heartbeat"
op_text Dead = codes "dead"
op_text StorageFailed = codes "storage_failed"
op_text Drain = codes "drain"
op_text Undrain = codes "undrain"
op_text Add = codes "add"
op_text Delete = codes "delete"
op_text SetReplication = codes "set_replication"
op_text Restamp = codes "restamp"
op_text Received = codes "received"
op_text Deleted = codes "deleted"
op_text Corrupt = codes "corrupt"
op_text Report = codes "report"
op_text Round = codes "round"
op_text ListReplicas = codes "list_replicas"
op_text ListCorrupt = codes "list_corrupt"
op_text ListMissing = codes "list_missing"
op_text ListExcess = codes "list_excess"
op_text ListStorage = codes "list_storage"
op_text ListPlaces = codes "list_places"
op_text Level = codes "level"
op_text Retired = codes "retired"
