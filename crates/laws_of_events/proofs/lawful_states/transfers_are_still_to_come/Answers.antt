use Rattle.laws_of_events.proofs.PendingTargets.{still_to_come}
use Rattle.laws_of_events.proofs.lawful_states.transfers_are_still_to_come.Goals as goal

pub returns : goal.returns
returns c = still_to_come
