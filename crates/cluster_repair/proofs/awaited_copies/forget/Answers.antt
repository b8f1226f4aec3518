use Rattle.std.proofs.Common.{◌∙◌, ℕ, false, cond, take, sym, ap}
use Rattle.std.specs.Prelude.{◌==◌, ◌&&◌, ◌||◌}
use Rattle.std.specs.List.{list_any}
use Rattle.std.proofs.lemmas.List.Folds.{list_any_more}
use Rattle.cluster_repair.specs.Copies.{is_copy_of, holds_target}
use Rattle.cluster_repair.proofs.CopyLemmas.{forgotten_more}
use Rattle.cluster_repair.proofs.awaited_copies.forget.Goals as goal

pub loop-one-preserved : goal.loop-one-preserved
loop-one-preserved c b t =
    let p = is_copy_of b t in
    let xs = c.args.sent.now in
    let i = c.loop-one.one-index in
    let x = c.one-item.result in
    forgotten_more x b t _ _ _ (list_any p (take i xs)) _ (c.loop-one.invariant b t)
    (c.remove.ensures.updates.0 (b, t) ∙ ap (λ (q : ℕ × ℕ). cond ((q.0 == b) && (q.1 == t)) false (holds_target c.loop-one.targets b t)) c.key_of.ensures)
    (list_any_more p xs i x c.loop-one-test.true ∙ ap (λ y. list_any p (take i xs) || p y) (sym c.one-item.is))
