use Rattle.bm_saved.proofs.SavedStates.{state_is_restored}
use Rattle.bm_saved.proofs.states.state_is_restored.Goals as goal

pub returns : goal.returns
returns c = state_is_restored
