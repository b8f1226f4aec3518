use Rattle.std.proofs.Common.{◌∙◌, cond, refl, ap}
use Rattle.std.specs.Prelude.{nat_lt, sum_by}
use Rattle.bm_base.specs.Spread.{spread}
use Rattle.bm_base.specs.Words.{keys}
use Rattle.cluster_losses.specs.LackingBytes.{free_on}
use Rattle.cluster_losses.specs.Outcomes.{levels_by}
use Rattle.cluster_losses.specs.RowCounts.{is_on_any, racks_without}
use Rattle.cluster_losses.proofs.Tables.{row_made}
use Rattle.cluster_losses.proofs.single_losses.make_row.Goals as goal

pub returns : goal.returns
returns c =
    let C = c.args.loaded.now.session.book.topology.cluster in
    row_made c.args.loaded.now.files c.args.loaded.now.session.manager C c.args.domain.now c.args.all.now c.left_of-left.result c.args.tally.now c.in_ok-is_multi.is_multi
    c.args.missing.now c.as_slice-lost.result.now c.in_ok-risk.risk _
    c.requires.lawful c.requires.in_step.cluster c.requires.tallied c.left_of-left.ensures c.requires.missing c.as_slice-lost.ensures
    (c.in_ok-is_multi.ensures ∙ ap (λ ns. nat_lt 1 (spread (racks_without C ns))) c.as_slice-nodes.ensures)
    refl c.len.ensures
    (c.levels_by.ensures ∙ ap (levels_by c.left_of-left.result c.in_ok-is_multi.is_multi) c.len-3.ensures)
    c.in_ok-missing.ensures refl
    (c.in_ok-free.ensures ∙ ap (λ ns. sum_by (λ s. cond (is_on_any C ns s) 0 (free_on C s)) (keys C.storages)) c.as_slice-nodes.ensures)
    c.in_ok-lost.ensures c.in_ok-risk.ensures c.len-2.ensures
