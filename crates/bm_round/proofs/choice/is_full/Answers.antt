use Rattle.std.proofs.Common.{ap, sym, length, ◌∙◌}
use Rattle.std.specs.Prelude.{◌*◌, nat_le}
use Rattle.bm_base.specs.Words.{len, limits_of}
use Rattle.bm_round.proofs.FirstWishes.{full_by_first}
use Rattle.bm_round.proofs.choice.is_full.Goals as goal

pub returns-clause-first : goal.returns-clause-first
returns-clause-first c bound whole full is =
    let most = c.args.config.now.work * len c.args.topology.now.cluster.nodes in
    let exact = c.is_full_count.ensures ∙ ap (λ ts. nat_le most (length ts)) c.as_slice.ensures in
    is ∙ full_by_first (limits_of c.args.config.now) c.args.topology.now.cluster bound whole (ap (λ ts. nat_le most (length ts)) (sym is) ∙ sym exact ∙ full)
