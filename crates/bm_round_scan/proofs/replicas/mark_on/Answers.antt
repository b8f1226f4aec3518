use Rattle.std.specs.Prelude.{slice_set}
use Rattle.std.proofs.Common.{◌≤◌, ◌<◌, ◌++◌, ℕ, length, take_all, drop_of_length-le, append-nil, ap, ◌∙◌, arith}
use Rattle.std.proofs.lemmas.List.Edits.{map_over_more}
use Rattle.bm_base.specs.declared.replica.Marks.{Marks}
use Rattle.bm_base.specs.Words.{has}
use Rattle.bm_round_scan.specs.BlockMarks.{marked_if, marked_on}
use Rattle.bm_round_scan.proofs.replicas.mark_on.Goals as goal

pub loop-at-preserved : goal.loop-at-preserved
loop-at-preserved c =
    let marked : ℕ × Marks → ℕ × Marks = λ r. (r.0, marked_if (has c.args.excess.now r.0) r.1) in
    let r = c.index.result.now in
    let within : c.loop-at.at < length c.args.replicas.now.items = omega arith in
    ap (λ m. slice_set c.loop-at.replicas.items c.loop-at.at (r.0, m)) (c.marked_if.ensures ∙ ap (λ t. marked_if t r.1) c.contains_near-is_excess.ensures)
    ∙ map_over_more marked c.args.replicas.now.items c.loop-at.replicas.items c.loop-at.at r within c.loop-at.invariant c.index.ensures

pub returns : goal.returns
returns c =
    let rs = c.args.replicas.now.items in
    let past : length rs ≤ c.loop-at.at = omega arith in
    c.loop-at.invariant ∙ (λ j. marked_on c.args.excess.now (take_all c.loop-at.at rs past j) ++ drop_of_length-le rs past j) ∙ append-nil (marked_on c.args.excess.now rs)
