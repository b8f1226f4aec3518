use Rattle.std.proofs.Common.{◌≡◌, [], ◌∷◌, ◌++◌, sym, ◌∙◌, ap}
use Rattle.logbook.specs.Pages.{nib, may_write}
use Rattle.bm_view.specs.declared.journal.JournalEntry.{JournalEntry}
use Rattle.bm_view.specs.declared.journal.JournalLine.{JournalLine}
use Rattle.bm_view.specs.Journal.{chain, tip, named, word_of}
use Rattle.bm_view.proofs.Steps.{enter_moves, named-push, entered, next_turn}
use Rattle.bm_view.proofs.journal.Journal.enter.Goals as goal

pub compare_exchange-requires : goal.compare_exchange-requires
compare_exchange-requires c =
    let old = c.self.inside in
    let offer = c.plain-offer.ensures in
    let turn : c.plain-offer.result.ask.by ≡ tip old.first.key old.seen.log = ap (λ (l : JournalLine). l.by) offer.1 ∙ (ap (λ p. p.nib.key) c.of-2.ensures ∙ ap (λ p. p.key) c.self.invariant.3) in (
      ap (λ w. w.tracked) c.self.invariant.0,
      sym (ap (λ w. w.book) c.self.invariant.0),
      c.self.invariant.2 ∙ sym (ap (λ w. w.book) c.self.invariant.0),
      offer.0,
      rw (ap (λ w. w.key) c.self.invariant.0, c.self.invariant.3) (enter_moves old.seen.log c.plain-offer.result.ask (tip old.first.key old.seen.log) c.plain-offer.result.state turn),
    )

pub invariant_of-self : goal.invariant_of-self
invariant_of-self c =
    let old = c.self.inside in
    let offer = c.plain-offer.ensures in
    let step = c.compare_exchange.ensures in
    let wrote = step.7 in
    let ask = c.plain-offer.result.ask in
    let turn : ask.by ≡ tip old.first.key old.seen.log = ap (λ (l : JournalLine). l.by) offer.1 ∙ (ap (λ p. p.nib.key) c.of-2.ensures ∙ ap (λ p. p.key) c.self.invariant.3) in
    let next : tip old.first.key c.compare_exchange.new.seen.log ≡ c.new_pen-next.result.1.key =
    ap (tip old.first.key) wrote.1 ∙ (next_turn old.first.key old.seen.log wrote.0 ask turn wrote.2 wrote.3 ∙ (ap (λ (l : JournalLine). l.next) offer.1 ∙ (ap (λ p. p.nib.key) c.of-3.ensures ∙ ap (λ p. p.key) c.new_pen-next.ensures.pen.1))) in (
      c.self.invariant.0 ∙ ap word_of (sym step.0),
      ap (named old.first.key) wrote.1 ∙ (named-push old.first.key (old.seen.log ++ wrote.0) ask ∙ (ap (λ (l : JournalLine). l.first) offer.1 ∙ ap (λ w. w.key) c.of.ensures)),
      c.new_pen-next.ensures.pen.0 ∙ sym step.0,
      c.new_pen-next.ensures.pen.1 ∙ ap (λ k. nib may_write k 0) (sym next),
    )

pub returns-clause-log : goal.returns-clause-log
returns-clause-log c =
    let old = c.self.inside in
    let offer = c.plain-offer.ensures in
    let step = c.compare_exchange.ensures in
    let wrote = step.7 in
    let ask = c.plain-offer.result.ask in
    let turn : ask.by ≡ tip old.first.key old.seen.log = ap (λ (l : JournalLine). l.by) offer.1 ∙ (ap (λ p. p.nib.key) c.of-2.ensures ∙ ap (λ p. p.key) c.self.invariant.3) in
    let entry : ◌≡◌ {A = JournalEntry} ask.entry (record { done = c.args.done; table = c.args.table.now }) = ap (λ (l : JournalLine). l.entry) offer.1 ∙ (λ i. record { done = c.args.done; table = c.of-4.ensures i }) in
    ap (chain old.first.key) wrote.1 ∙ (entered old.first.key old.seen.log wrote.0 ask turn wrote.2 wrote.3 ∙ (ap (λ e. chain old.first.key old.seen.log ++ e ∷ []) entry ∙ ap (λ v. v.log ++ record { done = c.args.done; table = c.args.table.now } ∷ []) c.self.view_is))
