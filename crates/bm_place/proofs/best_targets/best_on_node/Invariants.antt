use Rattle.std.proofs.Common.{◌≡◌, drop, Some}
use Rattle.std.specs.Prelude.{filter_map}
use Rattle.bm_base.specs.Maps.Map.{get}
use Rattle.bm_place.specs.BestTargets.{cmp_of_one_node, are_of_one_node}
use Rattle.bm_place.specs.Scan.{scan}
use Rattle.bm_place.proofs.best_targets.best_on_node.Given as goal

-- the scan of the rest gives the result of the scan of all
abbrev pub invariant-loop-storage : goal.invariant-loop-storage
invariant-loop-storage l =
    scan cmp_of_one_node (λ c. are_of_one_node c l.target) (Some l.best) (filter_map (λ s. get l.rows.map s) (drop l.storage-index l.near))
    ≡ scan cmp_of_one_node (λ c. are_of_one_node c l.target) (Some l.target) (filter_map (λ s. get l.rows.map s) l.near)
