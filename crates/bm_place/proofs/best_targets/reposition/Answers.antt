use Rattle.std.proofs.Common.{◌≡◌, ◌<◌, ◌+◌, length, Some, true, sym, ap, ◌∙◌, arith}
use Rattle.std.proofs.lemmas.List.{length-set}
use Rattle.std.proofs.lemmas.Option.{same_Some, slice_get-get_or}
use Rattle.bm_place.specs.BestTargets.{is_better_than}
use Rattle.bm_place.proofs.SortedTargets.{put_next, put_last, put_here}
use Rattle.bm_place.proofs.best_targets.reposition.Goals.{then-loop-at-test+else-is_better_than, else-loop-at-test}
use Rattle.bm_place.proofs.best_targets.reposition.Goals as goal

pub loop-at-preserved : goal.loop-at-preserved
loop-at-preserved c =
    let t = c.args.target.now in
    let cs = c.loop-at.best_targets.items in
    let i = c.loop-at.at in
    let d = c.index.result.now in
    let within : i + 1 < length cs = omega arith in
    let there = slice_get-get_or cs (i + 1) d within ∙ ap Some (sym c.index.ensures) in
    let same = same_Some d c.index-in-loop-at.result.now (sym there ∙ slice_get-get_or cs (i + 1) c.index-in-loop-at.result.now within ∙ ap Some (sym c.index-in-loop-at.ensures)) in
    let before : is_better_than c.index-in-loop-at.result.now t ≡ true = ap (λ d. is_better_than d t) (sym same) ∙ sym c.is_better_than.ensures ∙ c.if-is_better_than.true in
    record {
      within = omega (arith, within, length-set cs i c.index-in-loop-at.result.now);
      same = put_next i cs t c.index-in-loop-at.result.now (there ∙ ap Some same) before ∙ c.loop-at.invariant.same;
    }

pub returns : goal.returns
returns c =
    let t = c.args.target.now in
    let cs = c.loop-at.best_targets.items in
    let i = c.loop-at.at in
    elim c.loop-at-test.branch [
      | then-loop-at-test+else-is_better_than w ↦
          let d = w.index.result.now in
          let within : i + 1 < length cs = omega arith in
          let there = slice_get-get_or cs (i + 1) d within ∙ ap Some (sym w.index.ensures) in
          sym (put_here i cs t d there (sym w.is_better_than.ensures ∙ w.if-is_better_than.false)) ∙ c.loop-at.invariant.same
      | else-loop-at-test w ↦ sym (put_last i cs t c.loop-at.invariant.within (omega arith)) ∙ c.loop-at.invariant.same
    ]
