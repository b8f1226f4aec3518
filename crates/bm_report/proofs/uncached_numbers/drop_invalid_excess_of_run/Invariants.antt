use Rattle.std.proofs.Common.{◌≡◌, ◌+◌, ◌-◌}
use Rattle.bm_base.specs.Machine.Entries.{blocks_of_entry}
use Rattle.bm_base.specs.Shards.{shard_of}
use Rattle.bm_report.specs.ReportedBlocks.{of_part}
use Rattle.bm_report.proofs.ByNumber.{HasExcessToDrop}
use Rattle.bm_report.proofs.NumberRuns.{reported_from}
use Rattle.bm_report.proofs.uncached_numbers.drop_invalid_excess_of_run.Given as goal

abbrev pub invariant-loop-next : goal.invariant-loop-next
invariant-loop-next l =
    record {
      own : shard_of l.next l.part.shards ≡ l.part.index;
      left : HasExcessToDrop l.storage (of_part l.part (blocks_of_entry l.entry)) l.initial.arena (of_part l.part (reported_from l.entry l.next)) l.arena;
    }

abbrev pub decreases-loop-next : goal.decreases-loop-next
decreases-loop-next l = l.last + 1 - l.next
