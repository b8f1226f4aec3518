use Rattle.laws_of_rounds.proofs.UsableReplicas.{sources_usable}
use Rattle.laws_of_rounds.proofs.live_replicas.sources_are_usable.Goals as goal

pub returns : goal.returns
returns c = sources_usable
