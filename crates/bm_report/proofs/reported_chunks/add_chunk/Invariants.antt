use Rattle.std.proofs.Common.{◌≡◌, ◌+◌, ◌≤◌, drop, false, vec_len}
use Rattle.std.specs.Prelude.{vec_capacity}
use Rattle.bm_report.specs.DuringReport.{IsListed, AllAlreadyThere}
use Rattle.bm_report.proofs.ListedSlots.{AddsOnlyReported}
use Rattle.bm_report.proofs.PartialReport.{IsUnderway}
use Rattle.bm_report.proofs.reported_chunks.add_chunk.Given as goal

abbrev pub invariant-loop-index : goal.invariant-loop-index
invariant-loop-index l =
    record {
      underway : IsUnderway l.topology.cluster l.storage l.chunk (drop l.index l.chunk) l.initial.arena l.arena l.initial.tally l.tally;
      no_change : AllAlreadyThere l.initial.arena l.storage l.chunk → (l.arena.blocks ≡ l.initial.arena.blocks) × (l.changed.items ≡ l.initial.changed.items);
      listed : IsListed l.initial.arena l.arena l.initial.changed.items l.changed.items;
      same : l.is_changed ≡ false → l.arena.blocks ≡ l.initial.arena.blocks;
      space : vec_len l.changed ≤ vec_len l.initial.changed + l.index;
      came : AddsOnlyReported l.chunk l.initial.changed.items l.changed.items;
      capacity : vec_capacity l.changed ≡ vec_capacity l.initial.changed;
    }
