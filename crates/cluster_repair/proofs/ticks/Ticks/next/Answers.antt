use Rattle.std.proofs.Common.{◌∙◌, ◌+◌, ap, arith}
use Rattle.std.specs.Prelude.{min, max}
use Rattle.std.specs.Int.{div_ceil}
use Rattle.cluster_repair.specs.LinkModel.{most}
use Rattle.cluster_repair.proofs.TickLemmas.{is_next}
use Rattle.cluster_repair.proofs.ticks.Ticks.next.Goals as goal

pub returns : goal.returns
returns c =
    let time = c.time_of_fewer.result in
    let last = c.args.last in
    is_next c.args.self c.args.sent.now last time c.max-interval.result c.max.result c.max-ticks.result c.saturating_add.result
    c.max-interval.ensures c.max.ensures (omega arith)
    (c.max-ticks.ensures ∙ ap (λ d. max d 1) (c.div_ceil.ensures ∙ ap (λ w. div_ceil w c.max-interval.result) c.saturating_sub-wait.ensures))
    (c.saturating_add.ensures ∙ ap (λ n. min (last + n) most) c.saturating_mul.ensures)
    c.time_of_fewer.ensures.fewer c.time_of_fewer.ensures.before
