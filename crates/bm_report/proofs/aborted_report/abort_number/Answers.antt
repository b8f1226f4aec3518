use Rattle.std.proofs.Common.{is_some, sym, ap, ◌∙◌}
use Rattle.bm_report.proofs.Aborts.{aborted-dropped, unknown_in, unused_in}
use Rattle.bm_report.proofs.aborted_report.abort_number.Goals as goal

pub returns : goal.returns
returns c =
    let here = sym c.find.ensures ∙ c.in-Some.is in
    let held = c.show_invariant.ensures.found c.args.named.now.id c.in-Some.slot here in
    aborted-dropped c.args.arena.now c.drop_entry.new.self c.args.named.now c.in-Some.slot held.1 c.show_invariant.ensures here held.2
    (unknown_in c.args.arena.now c.in-Some.slot held.1 held.2 (ap is_some (sym c.info.ensures) ∙ sym c.if-is_some.ensures)) (unused_in c.args.arena.now c.in-Some.slot held.1 held.2 (c.has_no_replicas.ensures.0 c.if-not-has_no_replicas.false))
    (c.drop_entry.ensures.after held.1 held.2) c.drop_entry.ensures.entries (c.drop_entry.ensures.numbers held.1 held.2)
