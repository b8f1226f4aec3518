-- Names the box of a handle's state, and the types of its parts and of the handle, for proofs.
use mir.Syntax.{impl, tnil, dnil}
use mathlib.Core.List.{[]}
use denote.Signature.{Slot, plain}
use Rattle.std_alloc.proofs.BoxSteps.Form.{Bx}
use Rattle.std_heap.specs.contracts.Global as Heap
use Rattle.std_heap.specs.contracts.GlobalAllocator.TheImpl.{ghosts, dict}
use Rattle.std_heap.proofs.Global.TheLaws as heap
use Rattle.puljemrod.specs.contracts.handle_state.HandleState as HandleState
use Rattle.puljemrod.proofs.handle_state.HandleState.TheLaws as kept
use Rattle.puljemrod.specs.contracts.parts.BoxParts as BoxParts
use Rattle.puljemrod.specs.contracts.handle.Handle as Handle

abbrev pub E : Bx
E = record { row = HandleState.the_row; laws = kept.the_row_laws; al = record { row = Heap.the_row; laws = heap.the_row_laws; g = ghosts; d = dict; drops = impl [] tnil dnil } }

abbrev pub FromParts : Slot 0
FromParts = plain (λ _. BoxParts.the_row HandleState.the_row Heap.the_row ghosts)

abbrev pub FromHandle : Slot 0
FromHandle = plain (λ _. Handle.the_row)
