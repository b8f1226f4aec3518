use Rattle.laws_of_events.proofs.DrainLaws.{undrained_idly}
use Rattle.laws_of_events.proofs.draining_nodes.idle_undrain_changes_nothing.Goals as goal

pub returns : goal.returns
returns c = undrained_idly
