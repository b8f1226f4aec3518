use Rattle.std.specs.Prelude.{filter_map}
use Rattle.std.proofs.Common.{◌+◌, ℕ, drop, Some, sym, ap, ◌∙◌}
use Rattle.std.proofs.lemmas.Option.{slice_get-get_or}
use Rattle.bm_base.specs.Maps.Map.{get}
use Rattle.bm_place.specs.BestTargets.{cmp_of_one_node, are_of_one_node, better_of}
use Rattle.bm_place.specs.Scan.{scan}
use Rattle.bm_place.proofs.ScanStart.{scan-more}
use Rattle.bm_base.proofs.Slices.{drop_next}
use Rattle.bm_place.proofs.best_targets.best_on_node.Goals as goal

pub loop-storage-preserved : goal.loop-storage-preserved
loop-storage-preserved c =
    let t = c.args.target in
    let rows = c.args.rows.now.map in
    let xs = c.args.near.now in
    let i = c.loop-storage.storage-index in
    let e = c.storage-item.result in
    let b = c.loop-storage.best in
    let f = λ (s : ℕ). get rows s in
    let at = slice_get-get_or xs i e c.loop-storage-test.true ∙ ap Some (sym c.storage-item.is) in
    let best = c.better_of-best.ensures ∙ ap (better_of b t) (c.get.ensures ∙ ap (get rows) (c.from.ensures ∙ c.storage.view_is)) in
    ap (λ b. scan cmp_of_one_node (λ c. are_of_one_node c t) (Some b) (filter_map f (drop (i + 1) xs))) best
    ∙ sym (scan-more t b (f e) (filter_map f (drop (i + 1) xs)))
    ∙ ap (λ ys. scan cmp_of_one_node (λ c. are_of_one_node c t) (Some b) (filter_map f ys)) (sym (drop_next xs i e at))
    ∙ c.loop-storage.invariant
