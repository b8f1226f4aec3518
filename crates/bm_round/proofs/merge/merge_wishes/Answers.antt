use Rattle.std.proofs.Common.{rules, map, ap, sym, subst, ◌∙◌, T}
use Rattle.std.specs.FinMap.{is_sorted}
use Rattle.std.specs.Prelude.{◌==◌, ◌&&◌}
use Rattle.std.specs.List.Sorted.{IsStableByKey}
use Rattle.std.proofs.lemmas.Fn.{dedup_same}
use Rattle.std.proofs.lemmas.List.Sorted.{answers_always}
use Rattle.bm_base.specs.Ordered.{pair_cmp, by_pair, ordered_by}
use Rattle.bm_base.specs.RoundParts.{wish_key}
use Rattle.bm_base.specs.Choices.{merged_wishes}
use Rattle.bm_round.specs.KeyedParts.{keyed_wish}
use Rattle.bm_round.proofs.KeyedLists.{merged_wishes_ascend}
use Rattle.bm_round.proofs.LastOfEach.{pair_tie, last_of_each}
use Rattle.bm_round.proofs.merge.merge_wishes.Goals as goal

pub returns-clause-wishes : goal.returns-clause-wishes
unfolding merged_wishes
returns-clause-wishes c =
    let once = dedup_same _ (λ x y. ((wish_key x.now).0 == (wish_key y.now).0) && ((wish_key x.now).1 == (wish_key y.now).1)) _ (λ x y b f' x' y' k. search rules) _ _ c.dedup_by_key.ensures.filtered in
    let stable = c.sort_by_key.ensures.stable (λ w. wish_key w.now) (answers_always _ _ _ (λ f a r g h. search rules)) in
    let sorted = c.in_ok-sort_by_key.ensures.sorted (λ w. wish_key w.now) (answers_always _ _ _ (λ f a r g h. search rules)) in
    let from = c.in_ok-wishes.wishes.items in
    ap (map (λ w. w.now)) once
    ∙ last_of_each by_pair (λ w. w.now) wish_key (λ x y. ((wish_key x.now).0 == (wish_key y.now).0) && ((wish_key x.now).1 == (wish_key y.now).1)) (λ x y. pair_tie (wish_key x.now) (wish_key y.now)) from c.sort_by_key.new.self.items
    (subst (λ xs. IsStableByKey (λ w. wish_key w.now) pair_cmp xs c.sort_by_key.new.self.items) c.reverse.ensures.items stable) sorted
    ∙ ap (ordered_by by_pair wish_key) c.in_ok-wishes.ensures

pub returns-clause-ascending : goal.returns-clause-ascending
returns-clause-ascending c = subst (λ ws. T (is_sorted pair_cmp (map keyed_wish ws))) (sym (returns-clause-wishes c)) (merged_wishes_ascend c.args.parts.now)
