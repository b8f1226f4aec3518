use Rattle.std.proofs.Common.{◌≤◌, ◌<◌, All, length, sym, ap, ◌∙◌, subst, arith}
use Rattle.std.proofs.lemmas.Bool.Decides.{nat_tests}
use mathlib.Core.List.{IsPrefix}
use Rattle.bm_view.specs.History.{versions}
use Rattle.bm_view.specs.Holders.{Learnt}
use Rattle.bm_view.proofs.Prefixes.{prefix_self, prefix_shorter}
use Rattle.bm_view.proofs.Histories.{versions_prefix}
use Rattle.bm_view.proofs.ReaderKnowledge.{all_learnt}
use Rattle.bm_view.proofs.locator.Locator.learn.Goals as goal

pub invariant_of-self : goal.invariant_of-self
invariant_of-self c =
    let mine = c.self.inside.longest.log in
    let theirs = c.into_parts-evidence.result.0.log in
    let seen = c.into_parts-evidence.ensures in
    let both = c.show_one_journal.ensures in
    let below : c.self.inside.slot.learnt_number < c.into_parts-evidence.result.1 = c.is_below.ensures.0 c.if-is_below.true in
    let less : length mine ≤ length theirs = omega (arith, c.self.invariant.1, seen.number, below) in
    let begins = versions_prefix mine theirs (prefix_shorter mine theirs both.0 both.1 both.2 less) in (
      seen.seen.0 ∙ (c.requires ∙ ap (λ (l : Learnt). l.home) (sym c.self.view_is)),
      seen.number,
      seen.settled,
      c.self.invariant.3,
      seen.history,
      subst (λ learnt. All (λ known. IsPrefix known (versions theirs)) learnt) (sym c.add.ensures) (all_learnt c.self.inside.learnt (versions mine) (versions theirs) (versions theirs) c.self.invariant.5 begins (prefix_self (versions theirs))),
    )

pub invariant_of-self-else-is_below : goal.invariant_of-self-else-is_below
invariant_of-self-else-is_below c =
    let mine = c.self.inside.longest.log in
    let theirs = c.into_parts-evidence.result.0.log in
    let seen = c.into_parts-evidence.ensures in
    let both = c.show_one_journal.ensures in
    let less : length theirs ≤ length mine = grind (arith, nat_tests, c.self.invariant.1, seen.number, c.is_below.ensures, c.if-is_below.false) in
    let begins = versions_prefix theirs mine (prefix_shorter theirs mine both.0 both.2 both.1 less) in (
      c.self.invariant.0,
      c.self.invariant.1,
      c.self.invariant.2,
      c.self.invariant.3,
      c.self.invariant.4,
      subst (λ learnt. All (λ known. IsPrefix known (versions mine)) learnt) (sym c.add.ensures) (all_learnt c.self.inside.learnt (versions mine) (versions mine) (versions theirs) c.self.invariant.5 (prefix_self (versions mine)) begins),
    )
