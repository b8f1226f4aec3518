use Rattle.std.proofs.lemmas.List.Elements.{All-nil}
use mathlib.Core.List.{IsPrefix}
use Rattle.std.proofs.Common.{All, ◌*◌, length, sym, ap, ◌∙◌, subst}
use Rattle.bm_view.specs.History.{versions, IsSettled, IsHistory}
use Rattle.bm_view.specs.Rule.{Evidence}
use Rattle.bm_view.proofs.Histories.{opening_is_settled, opening_is_history}
use Rattle.bm_view.proofs.locator.Locator.new.Goals as goal

pub invariant_of-result : goal.invariant_of-result
invariant_of-result c = (
  sym (ap (λ (s : Evidence). s.home) c.copy.ensures),
  ap length c.requires.log ∙ sym (ap (λ n. 2 * n) c.one.ensures),
  subst IsSettled (sym c.requires.log) opening_is_settled,
  rw (c.copy.ensures, c.requires.log) c.requires.seen,
  subst (λ l. IsHistory (versions l)) (sym c.requires.log) opening_is_history,
  subst (λ learnt. All (λ known. IsPrefix known (versions c.args.first.log)) learnt) (sym c.nothing.ensures) (All-nil (λ known. IsPrefix known (versions c.args.first.log))),
)
