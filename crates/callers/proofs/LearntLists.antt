-- The version of a state has the state's number of calls.
use Rattle.std.proofs.Common.{◌≡◌, refl}
use Rattle.bm_base.specs.Machine.State.{State}
use Rattle.bm_base.specs.Promises.Versions.{version}

pub calls_of-version : (M : State) → (version M).calls ≡ M.calls
unfolding version
calls_of-version M = refl
