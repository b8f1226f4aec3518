use Rattle.std.proofs.Common.{◌∙◌, ◌*◌, ap}
use Rattle.std.specs.List.{filter}
use Rattle.cluster_repair.specs.Rows.{is_on_stride}
use Rattle.cluster_repair.proofs.Reach.{rows_among}
use Rattle.cluster_repair.proofs.RowLemmas.{in_order_among}
use Rattle.cluster_repair.proofs.rows.Rows.drop_every_second.Goals as goal

pub returns-clause-rows : goal.returns-clause-rows
returns-clause-rows c M d taken before =
    rows_among M d taken c.args.self.now.rows.items _ (c.args.self.now.stride * 2)
    (c.in_ok-self.ensures ∙ ap (λ rows. filter (λ r. is_on_stride r.round (c.args.self.now.stride * 2)) rows) c.as_slice.ensures.value) before

pub returns-clause-in_order : goal.returns-clause-in_order
returns-clause-in_order c next before =
    in_order_among next c.args.self.now.stride c.args.self.now.rows.items _
    (c.in_ok-self.ensures ∙ ap (λ rows. filter (λ r. is_on_stride r.round (c.args.self.now.stride * 2)) rows) c.as_slice.ensures.value) c.requires.full before
