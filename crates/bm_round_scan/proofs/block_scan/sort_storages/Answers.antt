use Rattle.std.proofs.lemmas.List.Sorted.{IsNonDecreasingBy-from_sort}
use Rattle.bm_round_scan.proofs.block_scan.sort_storages.Goals as goal

pub returns-then-len-gt1-clause-in_order : goal.returns-then-len-gt1-clause-in_order
returns-then-len-gt1-clause-in_order c = IsNonDecreasingBy-from_sort (λ x. x) c.sort_unstable.new.self.items c.sort_unstable.ensures.sorted
