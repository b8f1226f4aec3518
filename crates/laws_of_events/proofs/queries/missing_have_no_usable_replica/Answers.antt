use Rattle.laws_of_events.proofs.ListedReplicas.{missing_listed}
use Rattle.laws_of_events.proofs.queries.missing_have_no_usable_replica.Goals as goal

pub returns : goal.returns
returns c = missing_listed
