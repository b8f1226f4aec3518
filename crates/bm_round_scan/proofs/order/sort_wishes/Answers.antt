use Rattle.std.proofs.Common.{rules}
use Rattle.std.proofs.lemmas.Result.{IfOk-weaker}
use Rattle.std.proofs.lemmas.List.Sorted.{answers_always}
use Rattle.bm_base.specs.RoundParts.{wish_key}
use Rattle.bm_round_scan.proofs.order.sort_wishes.Goals as goal

pub returns : goal.returns
returns c =
    IfOk-weaker c.sort_by_key.result _ _ (λ _ sorted. record {
      permutation = c.sort_by_key.ensures.permutation;
      sorted = sorted wish_key (answers_always _ _ _ (λ f a r g h. search rules));
    }) c.sort_by_key.ensures.sorted
