use Rattle.laws_of_events.proofs.RunLaws.{last_counts}
use Rattle.laws_of_events.proofs.runs.last_stamp_counts.Goals as goal

pub returns : goal.returns
returns c = last_counts
