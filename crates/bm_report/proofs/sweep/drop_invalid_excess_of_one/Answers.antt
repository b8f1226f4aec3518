use Rattle.std.proofs.Common.{◌∷◌, [], subst, sym, ap, ◌∙◌}
use Rattle.bm_arena.specs.Contents.{Contents}
use Rattle.bm_report.specs.DuringReport.{DropsInvalidExcess}
use Rattle.bm_arena.proofs.SetMarks.{set_at}
use Rattle.bm_report.proofs.InvalidExcess.{drops-none, drops-good, drops-set}
use Rattle.bm_report.proofs.sweep.drop_invalid_excess_of_one.Goals as goal

pub returns-in_default : goal.returns-in_default
returns-in_default c = drops-none c.args.storage c.args.named.now c.args.arena.now c.show_invariant.ensures c.requires (sym c.marks.ensures ∙ c.in_default.is)

pub returns-then-is_excess_good : goal.returns-then-is_excess_good
returns-then-is_excess_good c =
    drops-good c.args.storage c.args.named.now c.args.arena.now c.show_invariant.ensures c.requires c.in-Some.marks (sym c.marks.ensures ∙ c.in-Some.is) (sym c.is_excess_good.ensures ∙ c.if-is_excess_good.true)

pub returns : goal.returns
returns c =
    let P : Contents → Type 0 = λ a. DropsInvalidExcess c.args.storage (c.args.named.now ∷ []) c.args.arena.now a in
    subst P (sym (c.set_marks.ensures.after ∙ ap (set_at c.args.arena.now c.args.named.now.slot c.args.storage) c.without_invalid_excess.ensures))
    (drops-set c.args.storage c.args.named.now c.args.arena.now c.show_invariant.ensures c.requires c.in-Some.marks (sym c.marks.ensures ∙ c.in-Some.is) (sym c.is_excess_good.ensures ∙ c.if-is_excess_good.false))
