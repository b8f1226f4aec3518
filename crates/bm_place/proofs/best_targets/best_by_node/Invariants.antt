use Rattle.std.proofs.Common.{◌≡◌, map, drop}
use Rattle.bm_base.specs.Maps.Map.{empty}
use Rattle.bm_place.specs.BestTargets.{with_firsts}
use Rattle.bm_place.proofs.best_targets.best_by_node.Given as goal

-- the rest, added to the table so far, gives the result of all
abbrev pub invariant-loop-row : goal.invariant-loop-row
invariant-loop-row l = with_firsts l.firsts.map (map (λ e. e.1) (drop l.row-index l.rows)) ≡ with_firsts empty (map (λ e. e.1) l.rows)
