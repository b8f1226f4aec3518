-- The states for which a law holds.
use Rattle.std.specs.Prelude.{List}
use Rattle.bm_base.specs.declared.config.Config.{Config}
use Rattle.bm_base.specs.declared.limits.Limits.{Limits}
use Rattle.bm_base.specs.declared.call.Call.{Call}
use Rattle.bm_base.specs.Machine.State.{State, first_state_within}
use Rattle.bm_base.specs.Promises.Lawful.{IsLawful}
use Rattle.bm_base.specs.Machine.Calls.{state_after}

-- P holds in all lawful states
abbrev pub InLawfulStates : (State → Type 0) → Type 0
InLawfulStates P = (M : State) → IsLawful M → P M

-- P holds in all states that calls lead to, whatever the limits, and whatever numbers the calls
-- bring
abbrev pub AfterAllCalls : (State → Type 0) → Type 0
AfterAllCalls P =
    (l : Limits) (config : Config) (ks : List Call)
    → P (state_after (first_state_within l config) ks)
