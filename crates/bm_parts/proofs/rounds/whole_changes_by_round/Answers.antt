use Rattle.bm_parts.proofs.PartChanges.{whole_changes_by_round}
use Rattle.bm_parts.proofs.rounds.whole_changes_by_round.Goals as goal

pub returns : goal.returns
returns c = whole_changes_by_round
