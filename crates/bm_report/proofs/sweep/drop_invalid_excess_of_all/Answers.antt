use Rattle.std.proofs.Common.{◌≡◌, suc, ◌∷◌, [], List, drop, length, refl, subst, sym, add-one}
use Rattle.std.proofs.lemmas.Option.{slice_get_read}
use Rattle.bm_arena.specs.Contents.{Contents}
use Rattle.bm_report.specs.declared.types.ReportedSlot.{ReportedSlot}
use Rattle.bm_report.specs.DuringReport.{AreAtSlots, DropsInvalidExcess}
use Rattle.bm_report.proofs.PartialReport.{drop_next, drop_all}
use Rattle.bm_report.proofs.InvalidExcess.{drops-append, drops-same, here-ids}
use Rattle.bm_report.proofs.sweep.drop_invalid_excess_of_all.Goals as goal

next : (c : goal.After-drop_invalid_excess_of_one) → drop c.loop-named.named-index c.args.named.now ≡ c.named-item.result ∷ drop (suc c.loop-named.named-index) c.args.named.now
next c =
    drop_next c.args.named.now c.loop-named.named-index c.named-item.result
    (slice_get_read c.args.named.now (length c.args.named.now) c.loop-named.named-index c.named-item.result refl c.loop-named-test.true c.named-item.is)

pub loop-named-preserved : goal.loop-named-preserved
loop-named-preserved c =
    let P : List ReportedSlot → Type 0 = λ l. AreAtSlots c.loop-named.arena l in
    let Q : List ReportedSlot → Type 0 = λ l. (last : Contents) → DropsInvalidExcess c.args.storage l c.loop-named.arena last → DropsInvalidExcess c.args.storage c.args.named.now c.args.arena.now last in
    record {
      here = rw add-one (here-ids c.loop-named.arena c.drop_invalid_excess_of_one.new.arena (drop (suc c.loop-named.named-index) c.args.named.now) c.drop_invalid_excess_of_one.ensures.ids (subst P (next c) c.loop-named.invariant.here).1);
      drops =
          rw add-one (λ last g. (subst Q (next c) c.loop-named.invariant.drops) last
          (drops-append c.args.storage c.named-item.result (drop (suc c.loop-named.named-index) c.args.named.now) c.loop-named.arena c.drop_invalid_excess_of_one.new.arena last c.drop_invalid_excess_of_one.ensures g));
    }

pub returns : goal.returns
returns c =
    let none : drop c.loop-named.named-index c.args.named.now ≡ [] = drop_all c.args.named.now c.loop-named.named-index c.loop-named-test.false in
    let P : List ReportedSlot → Type 0 = λ l. DropsInvalidExcess c.args.storage l c.loop-named.arena c.loop-named.arena in
    c.loop-named.invariant.drops c.loop-named.arena (subst P (sym none) (drops-same c.args.storage [] c.loop-named.arena refl))
