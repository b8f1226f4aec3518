use Rattle.std.proofs.Common.{◌≡◌, ◌∙◌, ap, arith}
use Rattle.bm_base.specs.Machine.State.{State}
use Rattle.bm_base.specs.Promises.Versions.{Version}
use Rattle.bm_view.specs.History.{last_of}
use Rattle.bm_view.specs.Holders.{Listed}
use Rattle.callers.proofs.LearntLists.{calls_of-version}
use Rattle.callers.proofs.concurrent_reader.publish_and_send.Goals as goal

pub make_notice-requires-clause-new : goal.make_notice-requires-clause-new
make_notice-requires-clause-new g c =
    let shown : (last_of c.in_ok-receipt.receipt.list).calls ≡ c.args.manager.now.calls =
    ap (λ (l : Listed). (last_of l.list).calls) c.in_ok-receipt.ensures.receipt
    ∙ ap (λ (v : Version). v.calls) c.in_ok-receipt.ensures.last
    ∙ calls_of-version c.args.manager.now in
    omega (arith, shown, c.requires.new)

pub returns-clause-calls : goal.returns-clause-calls
returns-clause-calls g c =
    let shown : (last_of c.publish.new.publisher.list).calls ≡ c.args.manager.now.calls =
    ap (λ (v : Version). v.calls) c.in_ok-receipt.ensures.last ∙ calls_of-version c.args.manager.now in
    let same : c.publish.new.self.calls ≡ c.args.manager.now.calls = ap (λ (M : State). M.calls) c.publish.ensures.same in
    omega (arith, shown, same)
