use Rattle.std.proofs.Common.{◌≡◌, ◌++◌, map, drop}
use Rattle.bm_place.proofs.best_targets.targets_of.Given as goal

-- those so far and the rest are all
abbrev pub invariant-loop-first : goal.invariant-loop-first
invariant-loop-first l = l.targets.items ++ map (λ e. e.1) (drop l.first-index l.firsts) ≡ map (λ e. e.1) l.firsts
