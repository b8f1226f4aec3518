use Rattle.std.proofs.Common.{◌≡◌, false, take}
use Rattle.std.specs.List.{list_any}
use Rattle.bm_parts.specs.QueryLaws.{holds_back}
use Rattle.bm_shards.proofs.queries.any_holds_back.Given as goal

abbrev pub invariant-loop-one : goal.invariant-loop-one
invariant-loop-one l = list_any (λ s. holds_back l.topology.cluster l.node s.1.holdings) (take l.one-index l.shards) ≡ false
