use Rattle.std.proofs.Common.{◌≡◌, ◌++◌, map, take}
use Rattle.bm_pending.proofs.transfer_lists.push_storages.Given as goal

abbrev pub invariant-loop-target : goal.invariant-loop-target
invariant-loop-target l = l.into.items ≡ l.fn.into.items ++ map (λ t. t.0) (take l.target-index l.targets)
