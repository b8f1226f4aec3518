use Rattle.laws_of_events.proofs.ListedReplicas.{corrupt_listed}
use Rattle.laws_of_events.proofs.queries.corrupt_are_stale_or_bad.Goals as goal

pub returns : goal.returns
returns c = corrupt_listed
