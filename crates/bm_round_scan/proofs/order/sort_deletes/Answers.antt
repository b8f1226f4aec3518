use Rattle.std.proofs.Common.{rules}
use Rattle.std.proofs.lemmas.Result.{IfOk-weaker}
use Rattle.std.proofs.lemmas.List.Sorted.{answers_always, IsPermutation-trans}
use Rattle.bm_base.specs.declared.commands.Delete.{Delete}
use Rattle.bm_round_scan.proofs.TwoSorts.{two_sorts}
use Rattle.bm_round_scan.proofs.order.sort_deletes.Goals as goal

pub returns : goal.returns
returns c =
    let xs = c.args.deletes.now.items in
    let ys = c.sort_by_key.new.self.items in
    let zs = c.sort_by_key-2.new.self.items in
    let by_block = c.in_ok-sort_by_key.ensures.sorted (λ (d : Delete). d.block) (answers_always _ _ _ (λ f a r g h. search rules)) in
    let stable = c.sort_by_key-2.ensures.stable (λ (d : Delete). d.storage) (answers_always _ _ _ (λ f a r g h. search rules)) in
    IfOk-weaker c.sort_by_key-2.result _ _ (λ _ sorted. record {
      permutation = IsPermutation-trans xs ys zs c.sort_by_key.ensures.permutation c.sort_by_key-2.ensures.permutation;
      sorted = two_sorts ys zs by_block stable (sorted (λ (d : Delete). d.storage) (answers_always _ _ _ (λ f a r g h. search rules)));
    }) c.sort_by_key-2.ensures.sorted
