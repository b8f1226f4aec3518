use Rattle.laws_of_events.proofs.DrainLaws.{undrain_takes}
use Rattle.laws_of_events.proofs.draining_nodes.undrain_takes_nothing.Goals as goal

pub returns : goal.returns
returns c = undrain_takes
