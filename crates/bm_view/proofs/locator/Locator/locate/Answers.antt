use Rattle.std.proofs.Common.{All, ◌≤◌, ◌+◌, ◌*◌, length, sym, ap, ◌∙◌, subst, arith}
use mathlib.Core.List.{IsPrefix}
use Rattle.left_right.specs.Sides.{view as sight}
use Rattle.bm_view.specs.History.{versions, shown_in, last_of}
use Rattle.bm_view.specs.Holders.{Learnt}
use Rattle.bm_view.proofs.Histories.{log_begins}
use Rattle.bm_view.proofs.ReaderKnowledge.{later, all_begin, none_older}
use Rattle.bm_view.proofs.locator.Locator.locate.Goals as goal

pub invariant_of-self-then-is_older : goal.invariant_of-self-then-is_older
invariant_of-self-then-is_older c =
    let old = c.self.inside in
    let now = later (sight old.slot.reader.place) c.in-Some.seen.evidence (sight c.replace_with.new.dest.reader.place) old.answered.home (shown_in old.answered.log) c.self.invariant.3 c.in-Some.ensures.1.0 in
    (c.self.invariant.0, c.self.invariant.1 ∙ ap (λ n. 2 * n) (sym c.in-Some.ensures.0), c.self.invariant.2, now.before, c.self.invariant.4, c.self.invariant.5)

pub invariant_of-self-2 : goal.invariant_of-self-2
invariant_of-self-2 c =
    let old = c.self.inside in
    let now = later (sight old.slot.reader.place) c.in-Some.seen.evidence (sight c.replace_with.new.dest.reader.place) old.answered.home (shown_in old.answered.log) c.self.invariant.3 c.in-Some.ensures.1.0 in
    (c.self.invariant.0 ∙ sym now.home, c.self.invariant.1 ∙ ap (λ n. 2 * n) (sym c.in-Some.ensures.0), c.self.invariant.2, now.now, c.self.invariant.4, c.self.invariant.5)

pub returns-clause-later : goal.returns-clause-later
returns-clause-later c =
    let old = c.self.inside in
    let now = later (sight old.slot.reader.place) c.in-Some.seen.evidence (sight c.replace_with.new.dest.reader.place) old.answered.home (shown_in old.answered.log) c.self.invariant.3 c.in-Some.ensures.1.0 in
    subst (λ (l : Learnt). IsPrefix l.list (shown_in c.in-Some.seen.evidence.log)) c.self.view_is now.list

pub returns-clause-learnt : goal.returns-clause-learnt
returns-clause-learnt c =
    let learnt = c.self.inside.longest.log in
    let shown = c.in-Some.seen.evidence.log in
    let both = c.show_one_journal.ensures in
    let some = c.in-Some.ensures.1.1.1.0 in
    let close : length learnt ≤ length shown + 1 = omega (arith, c.self.invariant.1, some.1 c.if-is_older.false) in
    subst (λ (l : Learnt). All (λ known. IsPrefix known (shown_in shown)) l.learnt) c.self.view_is (all_begin c.self.inside.learnt (versions learnt) (shown_in shown) c.self.invariant.5 (log_begins learnt shown both.0 both.1 both.2 c.self.invariant.2 close some.0))

pub returns-clause-no_older : goal.returns-clause-no_older
returns-clause-no_older c =
    let learnt = c.self.inside.longest.log in
    let shown = c.in-Some.seen.evidence.log in
    let both = c.show_one_journal.ensures in
    let some = c.in-Some.ensures.1.1.1.0 in
    let close : length learnt ≤ length shown + 1 = omega (arith, c.self.invariant.1, some.1 c.if-is_older.false) in
    let begins = log_begins learnt shown both.0 both.1 both.2 c.self.invariant.2 close some.0 in
    let all = all_begin c.self.inside.learnt (versions learnt) (shown_in shown) c.self.invariant.5 begins in
    let up = none_older c.self.inside.learnt (shown_in shown) all c.in-Some.ensures.1.1.1.1 in
    subst (λ (l : Learnt). All (λ known. (last_of known).calls ≤ c.in-Some.seen.found.calls) l.learnt) c.self.view_is (subst (λ n. All (λ known. (last_of known).calls ≤ n) c.self.inside.learnt) (sym c.in-Some.ensures.1.1.0.0) up)
