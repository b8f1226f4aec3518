use Rattle.std.proofs.Common.{[], ◌≡◌, ℕ, true, false, ◌++◌, map}
use Rattle.std.specs.Slice.Iter.{chunks_rest}
use Rattle.bm_arena.specs.Contents.{slot_of}
use Rattle.bm_base.specs.Words.{is_named}
use Rattle.bm_report.specs.DuringReport.{AreAtSlots, HaveCapacity, reported_of}
use Rattle.bm_report.specs.AbortedReport.{NamesNew}
use Rattle.bm_report.specs.Ready.{HaveReplicas}
use Rattle.bm_report.specs.ReportedBlocks.{IsPrepared, reported_to_part}
use Rattle.bm_report.proofs.look_up.look_up_all.Given as goal

abbrev pub invariant-loop-chunk : goal.invariant-loop-chunk
invariant-loop-chunk l =
    let left = chunks_rest l.chunk-iterator in
    record {
      finite : goal.iterator-loop-chunk.is_finite l.chunk-iterator;
      fresh : NamesNew l.initial.arena l.arena [] l.named.items;
      kept : IsPrepared l.initial.arena l.arena;
      here : AreAtSlots l.arena l.named.items;
      capacity : HaveCapacity l.arena l.storage l.named.items;
      others : (b : ℕ) → is_named (reported_to_part l.part l.entries) b ≡ false → slot_of l.arena b ≡ slot_of l.initial.arena b;
      rest : (b : ℕ) → is_named (reported_to_part l.part left) b ≡ true → is_named (reported_to_part l.part l.entries) b ≡ true;
      there : HaveReplicas l.initial.arena l.storage (reported_to_part l.part l.entries) → l.arena ≡ l.initial.arena;
      named : map reported_of l.named.items ++ reported_to_part l.part left ≡ reported_to_part l.part l.entries;
    }
