use Rattle.std.proofs.Common.{◌≡◌, ◌++◌, map, filter, take}
use Rattle.bm_base.specs.Words.{replica_at, is_expired}
use Rattle.bm_pending.proofs.transfer_lists.push_expired.Given as goal

abbrev pub invariant-loop-target : goal.invariant-loop-target
invariant-loop-target l = l.into.items ≡ l.fn.into.items ++ map (λ t. replica_at l.block t.0) (filter (λ t. is_expired l.pend l.round t.1) (take l.target-index l.targets))
