use Rattle.std.proofs.Common.{◌≡◌, ◌<◌, length, sym, ◌∙◌, ap, subst}
use Rattle.bm_view.specs.Journal.{chain, named}
use Rattle.bm_view.specs.Holders.{Home}
use Rattle.bm_view.proofs.Steps.{named-some}
use Rattle.bm_view.proofs.journal.Journal.evidence.Goals as goal

pub returns : goal.returns
returns c =
    let old = c.self.inside in
    let some : 0 < length (chain old.first.key old.seen.log) = subst (λ n. 0 < n) (sym (ap (λ v. length v.log) c.self.view_is)) c.requires in
    let first : named 0 c.again.result.log ≡ old.first.key = ap (λ s. named 0 s.log) c.again.ensures ∙ (named-some 0 old.first.key old.seen.log some ∙ c.self.invariant.1) in
    let home : ◌≡◌ {A = Home} (record { book = c.again.result.book; first = named 0 c.again.result.log }) (record { book = old.seen.book; first = old.first.key }) = λ i. record { book = (c.again.ensures i).book; first = first i } in (
      home ∙ ap (λ v. v.home) c.self.view_is,
      (λ i. chain (first i) (c.again.ensures i).log) ∙ ap (λ v. v.log) c.self.view_is,
    )
