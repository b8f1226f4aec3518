-- Each result that an event may have, it may also have if its list is copied first.
use Rattle.std.proofs.Common.{ℕ, Option, None, Some, inl, inr}
use Rattle.bm_base.specs.declared.event.Event.{Event}
use Rattle.puljemrod.specs.declared.handle_state.HandleState.{HandleState}
use Rattle.puljemrod.specs.Calls.{AfterEvent, AfterListed}

pub listed : (old : Option HandleState) (e : Event) (now : Option HandleState) (code : ℕ) → AfterEvent old e now code → AfterListed old e now code
listed None e now code closed = closed
listed (Some k) e now code (n, is, inl (memory, same, lacks)) = (n, is, inl (memory, same))
listed (Some k) e now code (n, is, inr made) = (n, is, inr made)
