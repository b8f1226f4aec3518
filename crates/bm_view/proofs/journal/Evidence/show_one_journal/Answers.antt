use Rattle.std.proofs.Common.{◌≡◌, sym, ◌∙◌, ap, subst}
use mathlib.Core.List.{IsPrefix}
use Rattle.bm_view.specs.Journal.{chain, named}
use Rattle.bm_view.proofs.Steps.{chain_prefix}
use Rattle.bm_view.proofs.journal.Evidence.show_one_journal.Goals as goal

pub returns : goal.returns
returns c =
    let mine = c.self.inside.seen.log in
    let theirs = c.other.inside.seen.log in
    let joined = c.learn.new.self.log in
    let both = chain (named 0 mine) joined in
    let known : IsPrefix mine joined = subst (λ s. IsPrefix s.log joined) c.again-both.ensures c.learn.ensures.2 in
    let same : named 0 theirs ≡ named 0 mine = ap (λ v. v.home.first) c.other.view_is ∙ (ap (λ h. h.first) c.requires ∙ sym (ap (λ v. v.home.first) c.self.view_is)) in (
      both,
      subst (λ v. IsPrefix v.log both) c.self.view_is (chain_prefix (named 0 mine) mine joined known),
      subst (λ v. IsPrefix v.log both) c.other.view_is (subst (λ k. IsPrefix (chain k theirs) both) (sym same) (chain_prefix (named 0 mine) theirs joined c.learn.ensures.3)),
    )
