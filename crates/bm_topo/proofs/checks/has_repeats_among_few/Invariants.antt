use Rattle.std.proofs.Common.{◌≡◌, length}
use Rattle.bm_base.specs.Maps.Lists.{has_repeats}
use Rattle.bm_topo.proofs.checks.has_repeats_among_few.Given as goal

abbrev pub invariant-loop-first : goal.invariant-loop-first
invariant-loop-first l = has_repeats l.rest ≡ has_repeats l.storages

abbrev pub decreases-loop-first : goal.decreases-loop-first
decreases-loop-first l = length l.rest
