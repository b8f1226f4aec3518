use Rattle.std.proofs.Common.{◌≡◌, ◌++◌, string_bytes}
use Rattle.std.specs.List.{flat_map}
use Rattle.std.specs.Slice.Iter.{iter_rest}
use Rattle.callers.specs.PrintedAnswers.{replica_line}
use Rattle.callers.proofs.printed_answers.replica_lines.Given as goal

-- the lines so far, followed by those of the remaining replicas, are all lines
abbrev pub invariant-loop-replica : goal.invariant-loop-replica
invariant-loop-replica l = string_bytes l.text ++ flat_map replica_line (iter_rest l.replica-iterator) ≡ flat_map replica_line l.replicas
