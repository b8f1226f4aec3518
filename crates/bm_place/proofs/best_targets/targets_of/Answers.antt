use Rattle.std.proofs.Common.{◌≡◌, ◌+◌, ◌++◌, ◌∷◌, [], ℕ, map, drop, ap, sym, ◌∙◌}
use Rattle.std.proofs.lemmas.List.{append_assoc, append-nil, drop_all, drop_more}
use Rattle.bm_place.specs.declared.scheduled_bytes.TargetRow.{TargetRow}
use Rattle.bm_place.proofs.best_targets.targets_of.Goals as goal

pub loop-first-preserved : goal.loop-first-preserved
loop-first-preserved c =
    let firsts = c.args.firsts.now in
    let i = c.loop-first.first-index in
    let before = c.loop-first.targets.items in
    let first = c.first-item.result in
    let rest = drop (i + 1) firsts in
    let next : drop i firsts ≡ first ∷ rest = drop_more firsts i first c.loop-first-test.true ∙ ap (λ e. e ∷ rest) (sym c.first-item.is) in
    ap (λ ts. ts ++ map (λ (e : ℕ × TargetRow). e.1) rest) c.in_ok-push.ensures.items
    ∙ append_assoc before (first.1 ∷ []) (map (λ (e : ℕ × TargetRow). e.1) rest)
    ∙ ap (λ es. before ++ map (λ (e : ℕ × TargetRow). e.1) es) (sym next)
    ∙ c.loop-first.invariant

pub returns : goal.returns
returns c =
    let targets = c.loop-first.targets.items in
    sym (append-nil targets)
    ∙ ap (λ es. targets ++ map (λ (e : ℕ × TargetRow). e.1) es) (sym (drop_all c.loop-first.first-index c.args.firsts.now c.loop-first-test.false))
    ∙ c.loop-first.invariant
