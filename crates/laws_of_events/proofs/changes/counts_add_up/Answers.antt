use Rattle.laws_of_events.proofs.EventCounts.{adds_up}
use Rattle.laws_of_events.proofs.changes.counts_add_up.Goals as goal

pub returns : goal.returns
returns c = adds_up
