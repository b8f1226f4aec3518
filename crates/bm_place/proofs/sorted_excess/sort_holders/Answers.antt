use Rattle.std.proofs.Common.{is_lt, rules}
use Rattle.std.proofs.lemmas.List.Sorted.{answers_always}
use Rattle.bm_place.specs.SortedExcess.{cmp_in_class}
use Rattle.bm_place.proofs.InClass.{ranks_in_class}
use Rattle.bm_place.proofs.sorted_excess.sort_holders.Goals as goal

pub returns-clause-in_order : goal.returns-clause-in_order
returns-clause-in_order c = c.sort_unstable_by.ensures.sorted (λ g h. is_lt (cmp_in_class g h)) ranks_in_class (answers_always _ _ _ (λ f a r f' k. search rules))
