use Rattle.std.proofs.Common.{◌≡◌, not, map, filter, take}
use Rattle.bm_base.specs.Machine.RoundStart.{is_expired}
use Rattle.bm_pending.proofs.remaining_targets.remaining_among.Given as goal

abbrev pub invariant-loop-target : goal.invariant-loop-target
invariant-loop-target l = l.left ≡ map (λ t. t.0) (filter (λ t. not (is_expired l.pend l.round t.1)) (take l.target-index l.targets))
