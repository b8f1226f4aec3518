use Rattle.std.proofs.Common.{◌≤◌, ◌∙◌, length, filter, sym, subst}
use Rattle.std.specs.Prelude.{◌*◌}
use Rattle.std.specs.List.{All}
use Rattle.bm_base.specs.Words.{len, limits_of, has_storage}
use Rattle.bm_base.specs.Choices.{merged_wishes}
use Rattle.bm_round.specs.Copies.{IsCopyOf}
use Rattle.bm_round.proofs.Bounds.{few_transfers, few_deletes}
use Rattle.bm_round.proofs.WishedCopies.{copies_of_wishes}
use Rattle.bm_round.proofs.choice.choose.Goals as goal

pub returns-clause-few_transfers : goal.returns-clause-few_transfers
returns-clause-few_transfers c =
    subst (λ ts. length ts ≤ c.args.config.now.work * len c.args.topology.now.cluster.nodes) (sym (c.from_vec.ensures ∙ c.in_ok-transfers.ensures.transfers))
    (few_transfers (limits_of c.args.config.now) c.args.topology.now.cluster c.args.parts.now)

pub returns-clause-copies : goal.returns-clause-copies
returns-clause-copies c =
    subst (All (IsCopyOf (merged_wishes c.args.parts.now))) (sym (c.from_vec.ensures ∙ c.in_ok-transfers.ensures.transfers))
    (copies_of_wishes (limits_of c.args.config.now) c.args.topology.now.cluster c.args.parts.now)

pub returns-clause-few_deletes : goal.returns-clause-few_deletes
returns-clause-few_deletes c n =
    subst (λ ds. length (filter (λ d. has_storage c.args.topology.now.cluster n d.storage) ds) ≤ c.args.config.now.invalidate) (sym (c.from_vec-2.ensures ∙ c.in_ok-deletes.ensures.deletes))
    (few_deletes (limits_of c.args.config.now) c.args.topology.now.cluster c.args.parts.now n)
