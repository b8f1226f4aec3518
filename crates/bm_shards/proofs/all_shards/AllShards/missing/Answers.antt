use Rattle.std.proofs.Common.{ℕ, ◌++◌, ◌∷◌, [], List, take, sym, ap, subst, ◌∙◌, append-nil}
use Rattle.std.specs.List.{flat_map}
use Rattle.std.proofs.lemmas.Grind.{flat_map-append}
use Rattle.bm_base.specs.Machine.Queries.{missing_blocks}
use Rattle.bm_shard.specs.ShardView.{Seen}
use Rattle.bm_shards.specs.Whole.{AreUpToDate}
use Rattle.bm_shards.proofs.OneOf.{item_there, up_to_date_at}
use Rattle.bm_shards.proofs.Questions.{sorted_missing, up_to_date_inside}
use Rattle.bm_base.proofs.Slices.{take_next}
use Rattle.bm_shards.proofs.all_shards.AllShards.missing.Goals as goal

pub loop-one-preserved : goal.loop-one-preserved
loop-one-preserved c = λ C each.
    let ss = c.deref-one-items.result.now in
    let i = c.loop-one.one-index in
    let one = c.one-item.result in
    let f : ℕ × Seen → List ℕ = λ s. missing_blocks C s.1.holdings in
    let there = item_there ss i one c.loop-one-test.true c.one-item.is in
    let listed = c.in_ok-list.ensures.missing C (up_to_date_at C ss i one each there) in
    c.in_ok-extend_from_slice.ensures.items
    ∙ (λ j. c.loop-one.invariant C each j ++ (c.as_slice.ensures ∙ listed) j)
    ∙ sym (ap (flat_map f) (take_next ss i one there) ∙ flat_map-append f (take i ss) (one ∷ []) ∙ ap (λ zs. flat_map f (take i ss) ++ zs) (append-nil (f one)))

pub returns-clause-missing : goal.returns-clause-missing
returns-clause-missing c = λ C up_to_date.
    let each = subst (AreUpToDate C) (sym c.deref-one-items.ensures.value) (up_to_date_inside C c.self.inside.shards.items c.args.self.now c.self.view_is up_to_date) in
    c.from_vec.ensures
    ∙ sorted_missing c.self.inside.shards.items _ _ _ c.self.invariant c.deref-one-items.ensures.value c.loop-one-test.false c.self.view_is C _ _ (c.loop-one.invariant C each) c.sort.ensures.permutation c.in_ok-sort.ensures.sorted
