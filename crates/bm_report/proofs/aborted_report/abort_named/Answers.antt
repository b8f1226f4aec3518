use Rattle.std.proofs.Common.{◌≡◌, suc, ◌∷◌, [], List, drop, length, refl, subst, sym, add-one}
use Rattle.std.proofs.lemmas.Option.{slice_get_read}
use Rattle.bm_arena.specs.Contents.{Contents}
use Rattle.bm_report.specs.declared.types.ReportedSlot.{ReportedSlot}
use Rattle.bm_report.specs.AbortedReport.{IsAborted}
use Rattle.bm_report.proofs.PartialReport.{drop_next, drop_all}
use Rattle.bm_report.proofs.Aborts.{aborted-none, aborted-cons}
use Rattle.bm_report.proofs.aborted_report.abort_named.Goals as goal

pub loop-named-preserved : goal.loop-named-preserved
loop-named-preserved c =
    let next : drop c.loop-named.named-index c.args.named.now ≡ c.named-item.result ∷ drop (suc c.loop-named.named-index) c.args.named.now =
    drop_next c.args.named.now c.loop-named.named-index c.named-item.result
    (slice_get_read c.args.named.now (length c.args.named.now) c.loop-named.named-index c.named-item.result refl c.loop-named-test.true c.named-item.is) in
    let Q : List ReportedSlot → Type 0 = λ l. (last : Contents) → IsAborted l c.loop-named.arena last → IsAborted c.args.named.now c.args.arena.now last in
    rw add-one (λ last g. (subst Q next c.loop-named.invariant) last
    (aborted-cons c.named-item.result (drop (suc c.loop-named.named-index) c.args.named.now) c.loop-named.arena c.abort_number.new.arena last c.abort_number.ensures g))

pub returns : goal.returns
returns c =
    let none : drop c.loop-named.named-index c.args.named.now ≡ [] = drop_all c.args.named.now c.loop-named.named-index c.loop-named-test.false in
    let P : List ReportedSlot → Type 0 = λ l. IsAborted l c.loop-named.arena c.loop-named.arena in
    c.loop-named.invariant c.loop-named.arena (subst P (sym none) (aborted-none c.loop-named.arena))
