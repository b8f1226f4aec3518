use Rattle.std.proofs.Common.{◌≡◌, ◌≢◌, ◌∙◌, [], is_some, sym, ap}
use Rattle.std.proofs.lemmas.Bool.{false≢true}
use Rattle.bm_arena.specs.Triplets.{Block}
use Rattle.bm_arena.specs.Contents.{block_at}
use Rattle.bm_report.specs.declared.types.ReportedSlot.{ReportedSlot}
use Rattle.bm_report.proofs.Aborts.{held_in, dropped-here, aborted-dropped, unknown_in, unused_in}
use Rattle.bm_report.proofs.aborted_report.abort_slot.Goals as goal

pub returns : goal.returns
returns c =
    let no_replicas = c.has_no_replicas.ensures.0 c.if-not-has_no_replicas.false in
    let held = held_in (λ (b : Block). b.replicas ≡ []) (block_at c.args.arena.now c.args.slot) no_replicas in
    let apart : c.args.slot ≢ c.args.arena.now.delimiter = λ e. false≢true (sym c.if-is_delimiter.false ∙ c.is_delimiter.ensures.1 e) in
    let here = c.show_invariant.ensures.known c.args.slot held.0 held.1 apart in
    let n : ReportedSlot = record { id = held.0.id; slot = c.args.slot; stamp = record { generation = 0; len = 0 } } in
    dropped-here c.args.arena.now c.drop_entry.new.self n c.show_invariant.ensures here
    (aborted-dropped c.args.arena.now c.drop_entry.new.self n c.args.slot held.0 c.show_invariant.ensures here held.1
    (unknown_in c.args.arena.now c.args.slot held.0 held.1 (ap is_some (sym c.info.ensures) ∙ sym c.if-is_some.ensures)) (unused_in c.args.arena.now c.args.slot held.0 held.1 no_replicas)
    (c.drop_entry.ensures.after held.0 held.1) c.drop_entry.ensures.entries (c.drop_entry.ensures.numbers held.0 held.1))
