-- The calls for a new block.
use Rattle.std.specs.Prelude.{ℕ, ◌^◌}
use Rattle.bm_base.specs.declared.call.Call.{Call}
use Rattle.bm_base.specs.declared.call.Call.TheVariants.{Apply}
use Rattle.bm_base.specs.declared.event.Event.TheVariants.{AddBlock, Received}
use Rattle.bm_base.specs.declared.replica.Stamp.{Stamp}

-- the stamp of every block: generation 1, 128 MiB
abbrev pub its_stamp : Stamp
its_stamp = record { generation = 1; len = 2 ^ 27 }

-- a file has a new block
abbrev pub addition : ℕ → ℕ → Call
addition b repl = Apply (AddBlock b its_stamp repl)

-- a DataNode received a replica of it
abbrev pub notice : ℕ → ℕ → Call
notice b s = Apply (Received s b its_stamp)
