use Rattle.laws_of_rounds.proofs.AcceptedNotices.{not_refused}
use Rattle.laws_of_rounds.proofs.obedience.obedience_is_not_refused.Goals as goal

pub returns : goal.returns
returns c = not_refused
