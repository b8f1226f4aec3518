use Rattle.bm_saved.proofs.SavedStates.{lines_are_a_snapshot}
use Rattle.bm_saved.proofs.states.lines_are_a_snapshot.Goals as goal

pub returns : goal.returns
returns c = lines_are_a_snapshot
