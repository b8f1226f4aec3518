use Rattle.std.proofs.Common.{◌≡◌, ℕ, true, false, ◌++◌, map, drop}
use Rattle.bm_arena.specs.Contents.{slot_of}
use Rattle.bm_base.specs.Words.{is_named, expanded}
use Rattle.bm_report.specs.DuringReport.{AreAtSlots, HaveCapacity, reported_of}
use Rattle.bm_report.specs.AbortedReport.{NamesNew}
use Rattle.bm_report.specs.Ready.{HaveReplicas}
use Rattle.bm_report.specs.ReportedBlocks.{IsPrepared, of_part, reported_to_part}
use Rattle.bm_report.proofs.look_up.look_up_chunk.Given as goal

abbrev pub invariant-loop-entry : goal.invariant-loop-entry
invariant-loop-entry l =
    record {
      fresh : NamesNew l.initial.arena l.arena l.initial.named.items l.named.items;
      kept : IsPrepared l.initial.arena l.arena;
      here : AreAtSlots l.arena l.named.items;
      capacity : HaveCapacity l.arena l.storage l.named.items;
      others : (b : ℕ) → is_named (reported_to_part l.part l.chunk) b ≡ false → slot_of l.arena b ≡ slot_of l.initial.arena b;
      rest : (b : ℕ) → is_named (of_part l.part (expanded (drop l.entry-index l.chunk))) b ≡ true → is_named (reported_to_part l.part l.chunk) b ≡ true;
      there : HaveReplicas l.initial.arena l.storage (reported_to_part l.part l.chunk) → l.arena ≡ l.initial.arena;
      named : map reported_of l.named.items ++ of_part l.part (expanded (drop l.entry-index l.chunk)) ≡ map reported_of l.initial.named.items ++ reported_to_part l.part l.chunk;
    }
