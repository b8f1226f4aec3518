use Rattle.std.proofs.lemmas.List.{map-id}
use Rattle.std.proofs.Common.{rules, ap, sym, subst, ◌∙◌}
use Rattle.std.specs.Prelude.{◌==◌, ◌&&◌}
use Rattle.std.specs.List.Sorted.{IsStableByKey}
use Rattle.std.proofs.lemmas.Fn.{dedup_same}
use Rattle.std.proofs.lemmas.List.Sorted.{answers_always}
use Rattle.bm_base.specs.Ordered.{pair_cmp, by_pair, ordered_by}
use Rattle.bm_base.specs.RoundParts.{delete_key}
use Rattle.bm_base.specs.Choices.{merged_deletes}
use Rattle.bm_round.proofs.LastOfEach.{pair_tie, last_of_each}
use Rattle.bm_round.proofs.merge.merge_deletes.Goals as goal

pub returns-clause-deletes : goal.returns-clause-deletes
unfolding merged_deletes
returns-clause-deletes c =
    let once = dedup_same _ (λ x y. ((delete_key x).0 == (delete_key y).0) && ((delete_key x).1 == (delete_key y).1)) _ (λ x y b f' x' y' k. search rules) _ _ c.dedup_by_key.ensures.filtered in
    let stable = c.sort_by_key.ensures.stable delete_key (answers_always _ _ _ (λ f a r g h. search rules)) in
    let sorted = c.in_ok-sort_by_key.ensures.sorted delete_key (answers_always _ _ _ (λ f a r g h. search rules)) in
    let from = c.in_ok-deletes.deletes.items in
    once
    ∙ sym (map-id _)
    ∙ last_of_each by_pair (λ d. d) delete_key (λ x y. ((delete_key x).0 == (delete_key y).0) && ((delete_key x).1 == (delete_key y).1)) (λ x y. pair_tie (delete_key x) (delete_key y)) from c.sort_by_key.new.self.items
    (subst (λ xs. IsStableByKey delete_key pair_cmp xs c.sort_by_key.new.self.items) c.reverse.ensures.items stable) sorted
    ∙ ap (ordered_by by_pair delete_key) (map-id from ∙ c.in_ok-deletes.ensures)
