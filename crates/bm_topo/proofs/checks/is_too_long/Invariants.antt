use Rattle.std.proofs.Common.{◌≡◌, ◌≤◌, ◌+◌, ◌-◌, drop}
use Rattle.std.specs.Prelude.{sum_by}
use Rattle.bm_base.specs.Machine.Entries.{run_length}
use Rattle.bm_base.specs.declared.limits.TheConstants.{MAX_NUMBERS}
use Rattle.bm_topo.proofs.checks.is_too_long.Given as goal

-- the numbers of the entries so far and those of the others make all, and the limit is not passed
-- yet
abbrev pub invariant-loop-entry : goal.invariant-loop-entry
invariant-loop-entry l = record {
  all : (MAX_NUMBERS - l.left) + sum_by run_length (drop l.entry-index l.entries) ≡ sum_by run_length l.entries;
  few : l.left ≤ MAX_NUMBERS;
}
