use Rattle.laws_of_events.proofs.ListedReplicas.{blocks_listed}
use Rattle.laws_of_events.proofs.queries.blocks_on_are_held.Goals as goal

pub returns : goal.returns
returns c = blocks_listed
