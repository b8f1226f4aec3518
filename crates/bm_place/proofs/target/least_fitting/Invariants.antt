use Rattle.bm_place.specs.Targets.{cmp_targets, is_available}
use Rattle.bm_place.proofs.TargetWalk.{IsWalked}
use Rattle.bm_place.proofs.target.least_fitting.Given as goal

abbrev pub invariant-loop-target : goal.invariant-loop-target
invariant-loop-target l = IsWalked (cmp_targets l.spread) (is_available l.topology.cluster l.spread l.level l.excluded l.len) l.targets l.target-index l.best
