-- Items of lists as C has them, and what they represent.
use Rattle.std.specs.Prelude.{ℕ}
use Rattle.bm_base.specs.declared.event.Entry.{Entry}
use Rattle.bm_base.specs.declared.event.Remaining.{Remaining}
use Rattle.bm_base.specs.declared.replica.Stamp.{Stamp}
use Rattle.puljemrod.specs.declared.rows.EntryRow.{EntryRow}
use Rattle.puljemrod.specs.declared.rows.RemainingRow.{RemainingRow}

abbrev pub entry_of : EntryRow → Entry
entry_of r = record { from = r.from; to = r.to; stamp = record { generation = r.generation; len = r.len } }

abbrev pub remaining_of : RemainingRow → Remaining
remaining_of r = record { storage = r.storage; remaining = r.remaining }

abbrev pub stamp : ℕ → ℕ → Stamp
stamp generation len = record { generation = generation; len = len }
