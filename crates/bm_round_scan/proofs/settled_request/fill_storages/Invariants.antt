use Rattle.std.proofs.Common.{◌≡◌, ◌++◌, true, map, drop}
use Rattle.bm_arena.specs.Triplets.{triplet_view}
use Rattle.bm_levels.specs.Status.{storages_at}
use Rattle.bm_round_scan.proofs.settled_request.fill_storages.Given as goal

-- those so far and the rest are all
abbrev pub invariant-loop-triplet : goal.invariant-loop-triplet
invariant-loop-triplet l = l.into.items ++ storages_at (λ _ _. true) (drop l.triplet-index (map triplet_view l.triplets)) ≡ storages_at (λ _ _. true) (map triplet_view l.triplets)
