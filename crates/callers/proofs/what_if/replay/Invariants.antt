use Rattle.std.proofs.Common.{◌≡◌, drop}
use Rattle.bm_base.specs.Words.{first_state_within, state_after}
use Rattle.callers.proofs.what_if.replay.Given as goal

-- the remaining calls lead from this state to the state after all calls
abbrev pub invariant-loop-call : goal.invariant-loop-call
invariant-loop-call g l = state_after (first_state_within l.fn.limits l.fn.config) l.calls ≡ state_after l.manager (drop l.call-index l.calls)
