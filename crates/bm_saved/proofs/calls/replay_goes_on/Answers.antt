use Rattle.bm_saved.proofs.Replays.{replay_goes_on}
use Rattle.bm_saved.proofs.calls.replay_goes_on.Goals as goal

pub returns : goal.returns
returns c = replay_goes_on
