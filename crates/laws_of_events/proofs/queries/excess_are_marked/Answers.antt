use Rattle.laws_of_events.proofs.ListedReplicas.{excess_listed}
use Rattle.laws_of_events.proofs.queries.excess_are_marked.Goals as goal

pub returns : goal.returns
returns c = excess_listed
