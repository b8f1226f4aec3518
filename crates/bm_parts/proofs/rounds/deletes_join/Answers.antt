use Rattle.bm_parts.proofs.MergedChoices.{deletes_join}
use Rattle.bm_parts.proofs.rounds.deletes_join.Goals as goal

pub returns : goal.returns
returns c = deletes_join
