use Rattle.std.proofs.Common.{◌≡◌, ◌+◌, ◌≤◌, ℕ, length, map, vec_len}
use Rattle.std.specs.Prelude.{vec_capacity}
use Rattle.std.specs.Slice.Iter.{chunks_rest, chunks_size}
use Rattle.bm_maps.specs.SlotLists.{IsMember}
use Rattle.bm_report.specs.DuringReport.{IsListed, AllAlreadyThere, slot_in}
use Rattle.bm_report.proofs.ListedSlots.{AddsOnlyReported}
use Rattle.bm_report.proofs.PartialReport.{IsUnderway}
use Rattle.bm_report.proofs.reported_chunks.add_all_reported.Given as goal

abbrev pub invariant-loop-chunk : goal.invariant-loop-chunk
invariant-loop-chunk l =
    let rest = chunks_rest l.chunk-iterator in
    record {
      finite : goal.iterator-loop-chunk.is_finite l.chunk-iterator;
      size : chunks_size l.chunk-iterator ≡ 64;
      underway : IsUnderway l.topology.cluster l.storage l.named rest l.initial.arena l.arena l.initial.tally l.tally;
      no_change : AllAlreadyThere l.initial.arena l.storage l.named → (l.arena.blocks ≡ l.initial.arena.blocks) × (l.changed.items ≡ l.initial.changed.items) × AllAlreadyThere l.initial.arena l.storage rest;
      listed : IsListed l.initial.arena l.arena l.initial.changed.items l.changed.items;
      space : vec_len l.changed + length rest ≤ vec_len l.initial.changed + length l.named;
      came : AddsOnlyReported l.named l.initial.changed.items l.changed.items;
      rest : (slot : ℕ) → IsMember slot (map slot_in rest) → IsMember slot (map slot_in l.named);
      capacity : vec_capacity l.changed ≡ vec_capacity l.initial.changed;
    }
