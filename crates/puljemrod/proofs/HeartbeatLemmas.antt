-- A heartbeat runs out of memory only if its list exceeds the memory that the handle keeps.
use Rattle.std.proofs.Common.{◌≡◌, ℕ, List, inl, inr, subst, rules}
use Rattle.bm_base.specs.declared.call.Call.TheVariants.{Apply}
use Rattle.bm_base.specs.declared.event.Event.TheVariants.{Heartbeat}
use Rattle.bm_base.specs.declared.event.Remaining.{Remaining}
use Rattle.bm_answers.specs.declared.line_answer.Request.TheVariants.{Asks}
use Rattle.puljemrod.specs.declared.handle_state.HandleState.{HandleState}
use Rattle.puljemrod.specs.Calls.{IsAsked, IsCall, IsBeat}

pub beat : (k before : HandleState) (node : ℕ) (rs : List Remaining) (now : HandleState) (code : ℕ) → before.manager ≡ k.manager → IsCall before (Apply (Heartbeat node rs)) now code → IsBeat k node rs now code
beat k before node rs now code same (inl (memory, is, lacks)) = absurd (search rules)
beat k before node rs now code same (inr made) = inr (subst (λ M. IsAsked M (Asks (Apply (Heartbeat node rs))) now × (code ≡ now.number)) same made)
