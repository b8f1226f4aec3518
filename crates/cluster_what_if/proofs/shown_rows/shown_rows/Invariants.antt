use Rattle.std.proofs.Common.{◌≡◌, ◌++◌, drop, length}
use Rattle.cluster_what_if.specs.ShownRows.{shown_from}
use Rattle.cluster_what_if.proofs.shown_rows.shown_rows.Given as goal

-- the rows so far, and then those that are shown of the others
abbrev pub invariant-loop-at : goal.invariant-loop-at
invariant-loop-at l = shown_from l.step (length l.rows) 0 l.rows ≡ l.shown.items ++ shown_from l.step (length l.rows) l.at (drop l.at l.rows)
