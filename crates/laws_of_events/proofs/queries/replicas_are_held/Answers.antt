use Rattle.laws_of_events.proofs.ListedReplicas.{listed}
use Rattle.laws_of_events.proofs.queries.replicas_are_held.Goals as goal

pub returns : goal.returns
returns c = listed
