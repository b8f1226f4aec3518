use Rattle.std.proofs.Common.{◌≡◌, length}
use Rattle.bm_base.specs.Maps.Lists.{has_repeats}
use Rattle.bm_topo.proofs.checks.has_repeats_among_many.Given as goal

abbrev pub invariant-loop-rest : goal.invariant-loop-rest
invariant-loop-rest l = (has_repeats l.rest ≡ has_repeats l.storages) × (length l.ordered ≡ 32768)

abbrev pub decreases-loop-rest : goal.decreases-loop-rest
decreases-loop-rest l = length l.rest
