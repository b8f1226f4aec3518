use Rattle.laws_of_events.proofs.ListedReplicas.{places_listed}
use Rattle.laws_of_events.proofs.queries.places_are_good.Goals as goal

pub returns : goal.returns
returns c = places_listed
