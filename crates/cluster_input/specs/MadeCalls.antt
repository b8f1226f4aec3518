-- Calls made one after another.
use Rattle.std.specs.Prelude.{◌≡◌, false, List}
use Rattle.std.specs.List.{list_any}
use Rattle.bm_base.specs.declared.call.Call.{Call}
use Rattle.bm_base.specs.Words.{State, answers, state_after, is_refused}

-- these calls lead from one state to another, and each is accepted
pub record Makes (calls : List Call) (old new : State) : Type 0 where
  pub state : new ≡ state_after old calls
  pub accepted : list_any is_refused (answers old calls) ≡ false
