use Rattle.std.proofs.Common.{sym, ◌∙◌}
use Rattle.bm_levels.proofs.AllMarks.{marks_found}
use Rattle.bm_levels.proofs.round_end.marks_near.Goals as goal

pub returns-then-eq : goal.returns-then-eq
returns-then-eq c =
    marks_found c.args.arena.now c.args.slot c.args.index c.args.storage _ _ c.show_invariant.ensures (sym c.in-Some.ensures) (sym c.eq.ensures ∙ c.if-eq.true)
