use Rattle.std.proofs.Common.{◌∙◌, length, ap, sym, arith}
use Rattle.cluster_what_if.specs.ShownRows.{shown_from}
use Rattle.cluster_what_if.proofs.ShownRows.{shown_next, left_out_next, all_shown}
use Rattle.cluster_what_if.proofs.shown_rows.shown_rows.Goals as goal
use Rattle.cluster_what_if.proofs.shown_rows.shown_rows.Goals.{then-is_shown+in_ok-push, else-is_shown}

pub loop-at-preserved : goal.loop-at-preserved
loop-at-preserved c =
    let rows = c.args.rows.now in
    let step = c.step_for-step.result in
    let all = shown_from step (length rows) 0 rows in
    elim c.if-is_shown.branch [
      | then-is_shown+in_ok-push w ↦
          shown_next step (length rows) c.loop-at.at rows _ (omega arith) all c.loop-at.shown.items c.if-is_shown.shown.items
          (sym c.is_shown.ensures ∙ w.if-is_shown.true) c.loop-at.invariant
          (ap (λ v. v.items) w.shown-is ∙ w.in_ok-push.ensures.items)
      | else-is_shown w ↦
          left_out_next step (length rows) c.loop-at.at rows (omega arith) all c.loop-at.shown.items c.if-is_shown.shown.items
          (sym c.is_shown.ensures ∙ w.if-is_shown.false) c.loop-at.invariant
          (ap (λ v. v.items) w.shown-is)
    ]

pub returns : goal.returns
returns c =
    let rows = c.args.rows.now in
    all_shown c.step_for-step.result (length rows) c.loop-at.at rows c.loop-at.shown.items (shown_from c.step_for-step.result (length rows) 0 rows)
    (omega arith) c.loop-at.invariant
    ∙ ap (λ s. shown_from s (length rows) 0 rows) c.step_for-step.ensures.step
