use Rattle.std.proofs.Common.{◌≡◌, ◌++◌, take, drop}
use Rattle.bm_round_scan.specs.BlockMarks.{marked_on}
use Rattle.bm_round_scan.proofs.replicas.mark_on.Given as goal

-- the replicas before this index are marked, and the others are unchanged
abbrev pub invariant-loop-at : goal.invariant-loop-at
invariant-loop-at l = l.replicas.items ≡ marked_on l.excess (take l.at l.initial.replicas.items) ++ drop l.at l.initial.replicas.items
