use Rattle.std.proofs.Common.{ℕ, ◌≡◌, ◌≤◌, ◌+◌, ◌%◌, List, [], ◌∷◌, subst, sym, ap, ◌∙◌, arith}
use Rattle.std.proofs.Math.Nat.{add-mod_right}
use Rattle.bm_base.specs.declared.event.Entry.{Entry}
use Rattle.bm_base.specs.Machine.Entries.{ReportedBlock, blocks_of_entry}
use Rattle.bm_report.specs.ReportedBlocks.{of_part}
use Rattle.bm_report.specs.Ready.{named_of}
use Rattle.bm_report.specs.DuringReport.{AreAtSlots, DropsInvalidExcess}
use Rattle.bm_report.proofs.NumberRuns.{reported_from, reported_first, reported_next, reported_past}
use Rattle.bm_report.proofs.ByNumber.{HasExcessToDrop, to_drop-first, to_drop-here, to_drop-next, to_drop-last}
use Rattle.bm_report.proofs.uncached_numbers.drop_invalid_excess_of_run.Goals as goal

pub loop-next-init : goal.loop-next-init
loop-next-init c =
    let from : c.entry.inside.0.0 ≡ c.args.entry.now.from = ap (λ (e : Entry). e.from) c.entry.view_is in
    let P : List ReportedBlock → Type 0 = λ l. HasExcessToDrop c.args.storage (of_part c.args.part (blocks_of_entry c.args.entry.now)) c.args.arena.now l c.args.arena.now in
    record {
      own = c.first_of_part-next.ensures.of_part;
      left =
          subst P
          (reported_first c.args.part c.args.entry.now c.first_of_part-next.result c.requires.part c.first_of_part-next.ensures.of_part (omega (arith, from, c.first_of_part-next.ensures.from)) (omega (arith, from, c.first_of_part-next.ensures.near)))
          (to_drop-first c.args.storage (of_part c.args.part (blocks_of_entry c.args.entry.now)) c.args.arena.now c.requires.here);
    }

pub drop_invalid_excess_of_number-requires : goal.drop_invalid_excess_of_number-requires
drop_invalid_excess_of_number-requires c =
    let to : c.from-last.result ≡ c.args.entry.now.to = c.from-last.ensures ∙ ap (λ (e : Entry). e.to) c.entry.view_is in
    let within : c.loop-next.next ≤ c.args.entry.now.to = omega (arith, c.loop-next-test.true, to) in
    let one : ReportedBlock = record { id = c.loop-next.next; stamp = c.args.entry.now.stamp } in
    let P : List ReportedBlock → Type 0 = λ l. HasExcessToDrop c.args.storage (of_part c.args.part (blocks_of_entry c.args.entry.now)) c.args.arena.now l c.loop-next.arena in
    let Q : Entry → Type 0 = λ e. AreAtSlots c.loop-next.arena (named_of c.loop-next.arena (record { id = c.loop-next.next; stamp = e.stamp } ∷ [])) in
    subst Q (sym c.entry.view_is)
    (to_drop-here c.args.storage (of_part c.args.part (blocks_of_entry c.args.entry.now)) c.args.arena.now (one ∷ []) (of_part c.args.part (reported_from c.args.entry.now (c.loop-next.next + c.args.part.shards))) c.loop-next.arena
    (subst P (reported_next c.args.part c.args.entry.now c.loop-next.next c.requires.part c.loop-next.invariant.own within) c.loop-next.invariant.left))

pub loop-next-preserved : goal.loop-next-preserved
loop-next-preserved c =
    let to : c.from-last.result ≡ c.args.entry.now.to = c.from-last.ensures ∙ ap (λ (e : Entry). e.to) c.entry.view_is in
    let within : c.loop-next.next ≤ c.args.entry.now.to = omega (arith, c.loop-next-test.true, to) in
    let one : ReportedBlock = record { id = c.loop-next.next; stamp = c.args.entry.now.stamp } in
    let P : List ReportedBlock → Type 0 = λ l. HasExcessToDrop c.args.storage (of_part c.args.part (blocks_of_entry c.args.entry.now)) c.args.arena.now l c.loop-next.arena in
    let S : Entry → Type 0 = λ e. DropsInvalidExcess c.args.storage (named_of c.loop-next.arena (record { id = c.loop-next.next; stamp = e.stamp } ∷ [])) c.loop-next.arena c.drop_invalid_excess_of_number.new.arena in
    let N : ℕ → Type 0 = λ k. HasExcessToDrop c.args.storage (of_part c.args.part (blocks_of_entry c.args.entry.now)) c.args.arena.now (of_part c.args.part (reported_from c.args.entry.now (c.loop-next.next + k))) c.drop_invalid_excess_of_number.new.arena in
    record {
      own = ap (λ k. (c.loop-next.next + k) % c.args.part.shards) c.from-next.ensures ∙ add-mod_right c.loop-next.next c.args.part.shards ∙ c.loop-next.invariant.own;
      left =
          subst N (sym c.from-next.ensures)
          (to_drop-next c.args.storage (of_part c.args.part (blocks_of_entry c.args.entry.now)) c.args.arena.now (one ∷ []) (of_part c.args.part (reported_from c.args.entry.now (c.loop-next.next + c.args.part.shards))) c.loop-next.arena c.drop_invalid_excess_of_number.new.arena
          (subst P (reported_next c.args.part c.args.entry.now c.loop-next.next c.requires.part c.loop-next.invariant.own within) c.loop-next.invariant.left)
          (subst S c.entry.view_is c.drop_invalid_excess_of_number.ensures));
    }

pub returns : goal.returns
returns c =
    let to : c.from-last.result ≡ c.args.entry.now.to = c.from-last.ensures ∙ ap (λ (e : Entry). e.to) c.entry.view_is in
    let P : List ReportedBlock → Type 0 = λ l. HasExcessToDrop c.args.storage (of_part c.args.part (blocks_of_entry c.args.entry.now)) c.args.arena.now l c.loop-next.arena in
    to_drop-last c.args.storage (of_part c.args.part (blocks_of_entry c.args.entry.now)) c.args.arena.now c.loop-next.arena
    (subst P (reported_past c.args.part c.args.entry.now c.loop-next.next (omega (arith, c.loop-next-test.false, to))) c.loop-next.invariant.left)
