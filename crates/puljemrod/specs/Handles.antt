-- What a handle owns.
use base.Fml.{Fml, ftrue}
use base.Stored.{Coded}
use denote.RawPtr.{Ptr}
use Rattle.std.specs.Prelude.{Option, Some, None}
use Rattle.std.specs.Box.Ownership.{box_owns}
use Rattle.std.specs.Coded.{coded_option}
use Rattle.std.specs.Global.{Global}
use Rattle.std_heap.specs.contracts.GlobalAllocator.TheImpl.{ghosts}
use Rattle.puljemrod.specs.contracts.handle_state.HandleState.{the_row}

-- a box of the handle's state, or nothing
abbrev pub handle_owns : Global → Ptr → Option the_row.Denot → Fml
handle_owns alloc p None = ftrue
handle_owns alloc p (Some x) = box_owns (ghosts.dealloc_token alloc) the_row p x

abbrev pub kept_coded : Coded (Option the_row.Denot)
kept_coded = coded_option the_row.coded
