use Rattle.std.proofs.Common.{◌-◌, length}
use Rattle.bm_place.proofs.SortedTargets.{IsMovedTo}
use Rattle.bm_place.proofs.best_targets.reposition.Given as goal

abbrev pub invariant-loop-at : goal.invariant-loop-at
invariant-loop-at l = IsMovedTo l.target l.index l.initial.best_targets.items l.at l.best_targets.items

abbrev pub decreases-loop-at : goal.decreases-loop-at
decreases-loop-at l = length l.best_targets.items - l.at
