use Rattle.std.proofs.Common.{◌≡◌, ◌+◌, ◌-◌, ◌++◌, ℕ, true, false, map}
use Rattle.bm_base.specs.Words.{is_named, blocks_of_entry}
use Rattle.bm_arena.specs.Contents.{slot_of}
use Rattle.bm_base.specs.Shards.{shard_of}
use Rattle.bm_report.specs.DuringReport.{AreAtSlots, HaveCapacity, reported_of}
use Rattle.bm_report.specs.AbortedReport.{NamesNew}
use Rattle.bm_report.specs.Ready.{HaveReplicas}
use Rattle.bm_report.specs.ReportedBlocks.{IsPrepared, of_part}
use Rattle.bm_report.proofs.NumberRuns.{reported_from}
use Rattle.bm_report.proofs.look_up.look_up_run.Given as goal

abbrev pub invariant-loop-next : goal.invariant-loop-next
invariant-loop-next l =
    record {
      fresh : NamesNew l.initial.arena l.arena l.initial.named.items l.named.items;
      kept : IsPrepared l.initial.arena l.arena;
      here : AreAtSlots l.arena l.named.items;
      capacity : HaveCapacity l.arena l.storage l.named.items;
      others : (b : ℕ) → is_named (of_part l.part (blocks_of_entry l.entry)) b ≡ false → slot_of l.arena b ≡ slot_of l.initial.arena b;
      rest : (b : ℕ) → is_named (of_part l.part (reported_from l.entry l.next)) b ≡ true → is_named (of_part l.part (blocks_of_entry l.entry)) b ≡ true;
      there : HaveReplicas l.initial.arena l.storage (of_part l.part (blocks_of_entry l.entry)) → l.arena ≡ l.initial.arena;
      own : shard_of l.next l.part.shards ≡ l.part.index;
      named : map reported_of l.named.items ++ of_part l.part (reported_from l.entry l.next) ≡ map reported_of l.initial.named.items ++ of_part l.part (blocks_of_entry l.entry);
    }

abbrev pub decreases-loop-next : goal.decreases-loop-next
decreases-loop-next l = l.last + 1 - l.next
