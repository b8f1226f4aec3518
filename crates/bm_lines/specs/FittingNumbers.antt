-- The numbers of a call fit their types.
use Rattle.std.specs.Prelude.{◌<◌, ◌^◌, All}
use Rattle.bm_base.specs.declared.event.Entry.{Entry}
use Rattle.bm_base.specs.declared.event.Remaining.{Remaining}
use Rattle.bm_base.specs.declared.event.Event.{Event}
use Rattle.bm_base.specs.declared.event.Event.TheVariants.{Register, Heartbeat, Dead, StorageFailed, Drain, Undrain, AddBlock, DeleteBlock, SetReplication, Restamp, Received, Deleted, Corrupt, FullReport}
use Rattle.bm_base.specs.declared.call.Call.{Call}
use Rattle.bm_base.specs.declared.call.Call.TheVariants as call
use Rattle.bm_base.specs.Promises.Fitting.{FitsStamp}

abbrev pub FitsEntry : Entry → Type 0
FitsEntry e = (e.from < 2 ^ 64) × (e.to < 2 ^ 64) × FitsStamp e.stamp

abbrev pub FitsRemaining : Remaining → Type 0
FitsRemaining r = (r.storage < 2 ^ 32) × (r.remaining < 2 ^ 64)

-- all numbers of an event
abbrev pub FitsWholeEvent : Event → Type 0
FitsWholeEvent (Register node rack storages) = (node < 2 ^ 32) × (rack < 2 ^ 32) × All (λ s. s < 2 ^ 32) storages
FitsWholeEvent (Heartbeat node remaining) = (node < 2 ^ 32) × All FitsRemaining remaining
FitsWholeEvent (Dead node) = node < 2 ^ 32
FitsWholeEvent (StorageFailed storage) = storage < 2 ^ 32
FitsWholeEvent (Drain node) = node < 2 ^ 32
FitsWholeEvent (Undrain node) = node < 2 ^ 32
FitsWholeEvent (AddBlock id stamp repl) = (id < 2 ^ 64) × FitsStamp stamp × (repl < 2 ^ 32)
FitsWholeEvent (DeleteBlock id) = id < 2 ^ 64
FitsWholeEvent (SetReplication id repl) = (id < 2 ^ 64) × (repl < 2 ^ 32)
FitsWholeEvent (Restamp id stamp) = (id < 2 ^ 64) × FitsStamp stamp
FitsWholeEvent (Received storage id stamp) = (storage < 2 ^ 32) × (id < 2 ^ 64) × FitsStamp stamp
FitsWholeEvent (Deleted storage id) = (storage < 2 ^ 32) × (id < 2 ^ 64)
FitsWholeEvent (Corrupt storage id) = (storage < 2 ^ 32) × (id < 2 ^ 64)
FitsWholeEvent (FullReport storage entries) = (storage < 2 ^ 32) × All FitsEntry entries

-- all numbers of a call
abbrev pub FitsWhole : Call → Type 0
FitsWhole (call.Apply e) = FitsWholeEvent e
FitsWhole (call.BlocksOn storage) = storage < 2 ^ 32
FitsWhole (call.Places id) = id < 2 ^ 64
FitsWhole (call.LevelOf id) = id < 2 ^ 64
FitsWhole (call.Retired node) = node < 2 ^ 32
FitsWhole _ = Unit {0}
