use Rattle.laws_of_rounds.proofs.LiveCounts.{listed_obeys}
use Rattle.laws_of_rounds.proofs.obedience.listed_order_obeys_all.Goals as goal

pub returns : goal.returns
returns c = listed_obeys
