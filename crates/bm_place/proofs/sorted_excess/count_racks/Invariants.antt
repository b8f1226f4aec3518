use Rattle.std.proofs.Common.{◌≡◌, ◌+◌, ℕ, drop}
use Rattle.bm_place.specs.Holders.{count_among}
use Rattle.bm_place.specs.Tables.{count_at}
use Rattle.bm_place.proofs.sorted_excess.count_racks.Given as goal

-- the counts so far and those of the rest are the counts of all
abbrev pub invariant-loop-holder : goal.invariant-loop-holder
invariant-loop-holder l = (r : ℕ) → count_at l.counts.map r + count_among (drop l.holder-index l.holders) r ≡ count_among l.holders r
