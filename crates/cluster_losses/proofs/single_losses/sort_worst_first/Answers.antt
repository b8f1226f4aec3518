use Rattle.std.proofs.Common.{is_lt, rules}
use Rattle.std.proofs.lemmas.Result.{IfOk-weaker}
use Rattle.std.proofs.lemmas.List.Sorted.{answers_always}
use Rattle.cluster_losses.specs.Tables.{row_cmp}
use Rattle.cluster_losses.proofs.Tables.{rows_rank}
use Rattle.cluster_losses.proofs.single_losses.sort_worst_first.Goals as goal

pub returns-clause-in_order : goal.returns-clause-in_order
returns-clause-in_order c =
    IfOk-weaker c.sort_by.result _ _ (λ _ sorted. sorted (λ a b. is_lt (row_cmp a b)) rows_rank (answers_always _ _ _ (λ f a r g h. search rules))) c.sort_by.ensures.sorted
