-- A handle may move to another thread, as the box that it represents may.
use mir.Raw.{raw}
use base.Shift.{Keyless}
use denote.Memory.{lone}
use denote.RawPtr.{Ptr}
use denote.Struct.Struct.{exits_of}
use denote.Struct.Owning.{shape, fields, to}
use denote.Param.Send.{IsSend, AllSend, owning_send, struct_send, sendable}
use Rattle.std.specs.Prelude.{Option, Some, None}
use Rattle.std.specs.Global.{Global}
use Rattle.std.proofs.Crossing as heap
use Rattle.std_alloc.proofs.SendSync.{quiet, lies}
use Rattle.std_heap.proofs.Global.TheSendSync as handle
use Rattle.puljemrod.specs.Handles.{handle_owns}
use Rattle.puljemrod.specs.contracts.handle_state.HandleState as HandleState
use Rattle.puljemrod.proofs.handle_state.HandleState.TheSendSync.{the_send as kept}
use Rattle.puljemrod.specs.contracts.handle.Handle.{the_row, the_type}

crosses : (a : Global) (p : Ptr) (k : Option HandleState.the_row.Denot) → Keyless (handle_owns a p k)
crosses a p None = tt
crosses a p (Some x) = (lies HandleState.the_row kept p x, heap.frees.frees a (raw (lone HandleState.the_row.mir)) p)

pub send : IsSend the_row
send =
    let all : AllSend (fields the_type) = (search sendable, (handle.the_field_send, tt)) in
    owning_send the_type all (λ d. crosses d.alloc d.at d.kept)
    (λ k. quiet (to the_type) (exits_of k (fields the_type)) ((struct_send (shape the_type) all).leaving k))
