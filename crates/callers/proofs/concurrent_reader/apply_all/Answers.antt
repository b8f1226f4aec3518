use Rattle.std.proofs.Common.{◌≡◌, ◌∙◌, ◌+◌, ap, sym, arith, fold, take}
use Rattle.std.proofs.lemmas.Result.{err_from_is_err_and}
use Rattle.bm_base.specs.Words.{State, after_event}
use Rattle.callers.proofs.Stops.{one_more, stops_at, stops_behind, calls_of-after_event}
use Rattle.callers.proofs.concurrent_reader.apply_all.Goals as goal

pub publish_and_send-requires-clause-calls : goal.publish_and_send-requires-clause-calls
publish_and_send-requires-clause-calls g c =
    let counted : c.apply.new.self.calls ≡ c.loop-event.manager.calls + 1 =
    ap (λ (M : State). M.calls) c.in_ok-apply.ensures.state ∙ calls_of-after_event c.loop-event.manager c.event-item.result in
    omega (arith, c.loop-event.invariant.1, counted)

pub publish_and_send-requires-clause-new : goal.publish_and_send-requires-clause-new
publish_and_send-requires-clause-new g c =
    let counted : c.apply.new.self.calls ≡ c.loop-event.manager.calls + 1 =
    ap (λ (M : State). M.calls) c.in_ok-apply.ensures.state ∙ calls_of-after_event c.loop-event.manager c.event-item.result in
    omega (arith, c.loop-event.invariant.3, c.requires.before, counted)

pub loop-event-preserved : goal.loop-event-preserved
loop-event-preserved g c =
    let counted : c.apply.new.self.calls ≡ c.loop-event.manager.calls + 1 =
    ap (λ (M : State). M.calls) c.in_ok-apply.ensures.state ∙ calls_of-after_event c.loop-event.manager c.event-item.result in
    let same : c.publish_and_send.new.manager.calls ≡ c.apply.new.self.calls = ap (λ (M : State). M.calls) c.publish_and_send.ensures.same in (
      one_more c.args.manager.now c.loop-event.manager c.publish_and_send.new.manager c.args.events.now c.loop-event.event-index c.event-item.result _ (omega arith) c.event-item.is
          c.loop-event.invariant.0 (c.publish_and_send.ensures.same ∙ c.in_ok-apply.ensures.state),
      c.publish_and_send.ensures.calls,
      c.publish_and_send.ensures.home ∙ sym c.requires.home,
      omega (arith, c.loop-event.invariant.3, same, counted),
    )

pub returns-in_err-apply-clause-stopped : goal.returns-in_err-apply-clause-stopped
returns-in_err-apply-clause-stopped g c =
    let e = err_from_is_err_and c.from_residual.result c.from_residual.ensures.1 in
    rw (e.1, e.2, c.in_err-apply.ensures.unchanged)
    (stops_at c.args.manager.now c.loop-event.manager c.args.events.now c.loop-event.event-index c.event-item.result _ c.in_err-apply.field-0.0 _ (omega arith) c.event-item.is
    c.loop-event.invariant.0 c.in_err-apply.ensures.refused)

pub returns-in_err-publish_and_send-clause-stopped : goal.returns-in_err-publish_and_send-clause-stopped
returns-in_err-publish_and_send-clause-stopped g c =
    let e = err_from_is_err_and c.from_residual-in_err-publish_and_send.result c.from_residual-in_err-publish_and_send.ensures.1 in
    let taken : c.publish_and_send.new.manager ≡ fold after_event c.args.manager.now (take (c.loop-event.event-index + 1) c.args.events.now) =
    one_more c.args.manager.now c.loop-event.manager c.publish_and_send.new.manager c.args.events.now c.loop-event.event-index c.event-item.result _ (omega arith) c.event-item.is
    c.loop-event.invariant.0 (c.publish_and_send.ensures.same ∙ c.in_ok-apply.ensures.state) in
    rw (e.1, e.2)
    (stops_behind c.args.manager.now c.publish_and_send.new.manager c.args.events.now c.loop-event.event-index c.in_err-publish_and_send.field-0.0
    taken c.in_err-publish_and_send.ensures.refused)
