-- The contract is the lemma.
use Rattle.worked_examples.proofs.Storages.{limit_is_kept}
use Rattle.worked_examples.proofs.limits.storages_at_the_limit.Goals as goal

pub returns : goal.returns
returns c = limit_is_kept
