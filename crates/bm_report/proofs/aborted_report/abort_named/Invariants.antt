use Rattle.std.proofs.Common.{drop}
use Rattle.bm_arena.specs.Contents.{Contents}
use Rattle.bm_report.specs.AbortedReport.{IsAborted}
use Rattle.bm_report.proofs.aborted_report.abort_named.Given as goal

abbrev pub invariant-loop-named : goal.invariant-loop-named
invariant-loop-named l = (last : Contents) → IsAborted (drop l.named-index l.named) l.arena last → IsAborted l.named l.initial.arena last
