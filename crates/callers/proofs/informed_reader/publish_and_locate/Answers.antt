use Rattle.std.proofs.Common.{◌≤◌, ◌∙◌, All, ap, subst}
use Rattle.bm_base.specs.Promises.Versions.{Version}
use Rattle.bm_view.specs.History.{last_of}
use Rattle.bm_view.specs.Holders.{Listed}
use Rattle.bm_view.specs.declared.locator.Located.{Located}
use Rattle.callers.proofs.LearntLists.{calls_of-version}
use Rattle.bm_view.proofs.ReaderKnowledge.{latest, if_some}
use Rattle.callers.proofs.informed_reader.publish_and_locate.Goals as goal

pub returns-clause-no_older : goal.returns-clause-no_older
returns-clause-no_older g c =
    let is = ap (λ (l : Listed). (last_of l.list).calls) c.in_ok-receipt.ensures.receipt
    ∙ ap (λ (v : Version). v.calls) c.in_ok-receipt.ensures.last
    ∙ calls_of-version c.args.manager.now in
    if_some c.locate.result _ _ c.locate.ensures.no_older
    (λ (seen : Located) h.
    subst (λ n. n ≤ seen.calls) is
    (latest c.args.locator.now.learnt c.in_ok-receipt.receipt.list seen.calls
    (subst (λ learnt. All (λ known. (last_of known).calls ≤ seen.calls) learnt) c.learn.ensures.learnt h)))
