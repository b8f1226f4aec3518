use Rattle.bm_parts.proofs.MergedChoices.{parts_choose_deletes}
use Rattle.bm_parts.proofs.rounds.parts_choose_deletes.Goals as goal

pub returns : goal.returns
returns c = parts_choose_deletes
