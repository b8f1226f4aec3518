use Rattle.std.proofs.Common.{is_lt, rules}
use Rattle.std.proofs.lemmas.List.Sorted.{answers_always}
use Rattle.bm_place.specs.BestTargets.{cmp_of_one_node}
use Rattle.bm_place.proofs.SameNodeTargets.{ranks}
use Rattle.bm_place.proofs.best_targets.sort_targets.Goals as goal

pub returns-clause-in_order : goal.returns-clause-in_order
returns-clause-in_order c = c.sort_unstable_by.ensures.sorted (λ s t. is_lt (cmp_of_one_node s t)) ranks (answers_always _ _ _ (λ f a r f' k. search rules))
