use Rattle.std.proofs.Common.{◌<◌, ◌+◌, Some, sym, ap, subst, ◌∙◌, arith}
use Rattle.std.proofs.lemmas.Option.{slice_get-get_or}
use Rattle.bm_place.specs.BestTargets.{AreBestTargets}
use Rattle.bm_place.specs.Targets.{free_bytes_on, cmp_targets, is_available}
use Rattle.bm_place.proofs.BestTargetScan.{target_found}
use Rattle.bm_place.proofs.TargetWalk.{IsWalked, here_behind, walked_past, walked_with, ends_below_len, ends_at_first, ends_behind}
use Rattle.bm_place.proofs.target.least_fitting.Goals.{then-beats_best+else-class_of-eq0, else-beats_best}
use Rattle.bm_place.proofs.target.least_fitting.Goals as goal

pub beats_best-requires : goal.beats_best-requires
beats_best-requires c =
    let w = c.of-spread.result in
    let cs = c.best_targets-targets.result.now in
    let t = c.target-item.result in
    let at = slice_get-get_or cs c.loop-target.target-index t c.loop-target-test.true ∙ ap Some (sym c.target-item.is) in
    here_behind (cmp_targets w) (is_available c.args.topology.now.cluster w c.args.level c.args.excluded.now c.args.len) cs c.loop-target.target-index t at c.loop-target.best c.loop-target.invariant

pub loop-target-preserved : goal.loop-target-preserved
loop-target-preserved c =
    let w = c.of-spread.result in
    let p = is_available c.args.topology.now.cluster w c.args.level c.args.excluded.now c.args.len in
    let cs = c.best_targets-targets.result.now in
    let i = c.loop-target.target-index in
    let t = c.target-item.result in
    let at = slice_get-get_or cs i t c.loop-target-test.true ∙ ap Some (sym c.target-item.is) in
    elim c.if-beats_best.branch [
      | then-beats_best+else-class_of-eq0 v ↦
          subst (IsWalked (cmp_targets w) p cs (i + 1)) (sym v.best-is) (walked_with (cmp_targets w) p cs i t at c.loop-target.best c.loop-target.invariant c.best_targets-targets.ensures.ordered (sym c.beats_best.ensures ∙ v.if-beats_best.true))
      | else-beats_best v ↦ subst (IsWalked (cmp_targets w) p cs (i + 1)) (sym v.best-is) (walked_past (cmp_targets w) p cs i t at c.loop-target.best c.loop-target.invariant (sym c.beats_best.ensures ∙ v.if-beats_best.false))
    ]

pub returns-then-free_bytes_on-len : goal.returns-then-free_bytes_on-len
returns-then-free_bytes_on-len c sent made =
    let C = c.args.topology.now.cluster in
    let w = c.of-spread.result in
    let cs = c.best_targets-targets.result.now in
    let t = c.target-item.result in
    let at = slice_get-get_or cs c.loop-target.target-index t c.loop-target-test.true ∙ ap Some (sym c.target-item.is) in
    let less : free_bytes_on t < c.args.len = omega (arith, c.free_bytes_on.ensures, c.if-free_bytes_on-len.true) in
    c.storage_of.ensures
    ∙ target_found C sent c.args.level c.args.held.now c.args.excluded.now c.args.len cs (subst (λ rows. AreBestTargets rows cs) made c.best_targets-targets.ensures) w c.loop-target.best c.of-spread.ensures
    (ends_below_len C w c.args.level c.args.excluded.now c.args.len cs c.best_targets-targets.ensures.ordered c.loop-target.target-index t at c.loop-target.best c.loop-target.invariant.scanned less)

pub returns-then-class_of-eq0 : goal.returns-then-class_of-eq0
returns-then-class_of-eq0 c sent made =
    let C = c.args.topology.now.cluster in
    let w = c.of-spread.result in
    let cs = c.best_targets-targets.result.now in
    let t = c.target-item.result in
    let at = slice_get-get_or cs c.loop-target.target-index t c.loop-target-test.true ∙ ap Some (sym c.target-item.is) in
    target_found C sent c.args.level c.args.held.now c.args.excluded.now c.args.len cs (subst (λ rows. AreBestTargets rows cs) made c.best_targets-targets.ensures) w (Some t) c.of-spread.ensures
    (ends_at_first C w c.args.level c.args.excluded.now c.args.len cs c.best_targets-targets.ensures.ordered c.loop-target.target-index t at c.loop-target.best c.loop-target.invariant.scanned (sym c.beats_best.ensures ∙ c.if-beats_best.true)
    (sym c.class_of.ensures ∙ c.if-class_of-eq0.true))

pub returns : goal.returns
returns c sent made =
    let C = c.args.topology.now.cluster in
    let w = c.of-spread.result in
    let cs = c.best_targets-targets.result.now in
    c.storage_of-2.ensures
    ∙ target_found C sent c.args.level c.args.held.now c.args.excluded.now c.args.len cs (subst (λ rows. AreBestTargets rows cs) made c.best_targets-targets.ensures) w c.loop-target.best c.of-spread.ensures
    (ends_behind C w c.args.level c.args.excluded.now c.args.len cs c.loop-target.target-index c.loop-target.best c.loop-target-test.false c.loop-target.invariant.scanned)
