use Rattle.std.proofs.Common.{true, ◌++◌, ◌+◌, ◌∷◌, [], drop, map, ap, sym, ◌∙◌}
use Rattle.std.proofs.lemmas.List.{append_assoc, append-nil}
use Rattle.bm_arena.specs.Triplets.{triplet_view}
use Rattle.bm_levels.specs.Status.{storages_at}
use Rattle.bm_levels.proofs.Slots.{next_triplet, end_triplets}
use Rattle.bm_round_scan.proofs.settled_request.fill_storages.Goals as goal

pub loop-triplet-preserved : goal.loop-triplet-preserved
loop-triplet-preserved c =
    let rs = map triplet_view c.args.triplets.now in
    let rest = storages_at (λ _ _. true) (drop (c.loop-triplet.triplet-index + 1) rs) in
    let here = next_triplet c.args.triplets.now c.loop-triplet.triplet-index c.triplet-item.result c.loop-triplet-test.true c.triplet-item.is in
    ap (λ xs. xs ++ rest) (c.in_ok-push.ensures.items ∙ ap (λ (r : _). c.loop-triplet.into.items ++ r.0 ∷ []) c.replica-storage.ensures)
    ∙ append_assoc c.loop-triplet.into.items _ rest
    ∙ ap (λ xs. c.loop-triplet.into.items ++ storages_at (λ _ _. true) xs) (sym here)
    ∙ c.loop-triplet.invariant

pub returns : goal.returns
returns c =
    let past = end_triplets c.args.triplets.now c.loop-triplet.triplet-index c.loop-triplet-test.false in
    sym (append-nil c.loop-triplet.into.items) ∙ ap (λ xs. c.loop-triplet.into.items ++ storages_at (λ _ _. true) xs) (sym past) ∙ c.loop-triplet.invariant
