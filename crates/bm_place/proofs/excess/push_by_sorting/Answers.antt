use Rattle.std.specs.List.Sorted.{IsPermutation, IsSorted}
use Rattle.std.proofs.Common.{◌≡◌, ◌∙◌, ◌++◌, ℕ, ap, sym, subst}
use Rattle.std.proofs.lemmas.Result.{IfOk-weaker}
use Rattle.bm_place.specs.Holders.{count_among}
use Rattle.bm_place.specs.SortedExcess.{cmp_in_class}
use Rattle.bm_place.specs.Tables.{count_at}
use Rattle.bm_place.proofs.PermutedStorages.{storages, moved_looked_up, moved_alike, counts_storages}
use Rattle.bm_place.proofs.OrderIndependence.{excess_alike, once_alike}
use Rattle.bm_place.proofs.excess.push_by_sorting.Goals as goal

pub returns : goal.returns
returns c =
    let C = c.args.topology.now.cluster in
    let live = c.args.live.now in
    let holders = c.sort_holders.new.holders.items in
    let counts = c.count_racks.new.counts.map in
    let moved = subst (λ hs. IsPermutation hs holders) c.in_ok-fill_holders.ensures c.sort_holders.ensures.moved in
    let counted : (r : ℕ) → count_at counts r ≡ count_among holders r = λ r. c.in_ok-count_racks.ensures r ∙ ap (λ hs. count_among hs r) c.deref.ensures.value in
    let is = moved_looked_up C live holders moved in
    let alike = moved_alike C live holders moved in
    let handed = c.deref-2.ensures.value in
    IfOk-weaker c.push_in_order.result _ _ (λ _ passed once.
    passed C (storages holders)
    (record {
      looked_up = handed ∙ is;
      in_order = subst (IsSorted cmp_in_class) (sym handed) c.sort_holders.ensures.in_order;
      once = once_alike (storages holders) live alike once;
      counted = counts_storages C (storages holders) holders counts is counted;
    })
    ∙ ap (λ ss. c.args.into.now.items ++ ss) (excess_alike C c.args.surplus (storages holders) live alike))
    c.push_in_order.ensures
