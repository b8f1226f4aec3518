use Rattle.std.proofs.Common.{◌∙◌, [], ap, arith, replicate, subst, sym}
use Rattle.cluster_names.specs.FileTable.{file_index_of}
use Rattle.cluster_pages.specs.AtRisk.{AreCounts, with_counted}
use Rattle.cluster_pages.proofs.AtRiskLemmas.{counted_more, none_counted}
use Rattle.cluster_pages.proofs.files_at_risk.count_by_file.Goals as goal

pub loop-block-init : goal.loop-block-init
loop-block-init c =
    subst (AreCounts c.args.files.now [])
    (sym (c.in_ok-counts.ensures ∙ ap (λ n. replicate n 0) c.file_count.ensures))
    (none_counted c.args.files.now)

pub loop-block-preserved : goal.loop-block-preserved
loop-block-preserved c =
    counted_more c.args.files.now c.args.blocks.now c.loop-block.counts.items c.count_in_file.new.counts.items
    c.loop-block.block-index c.block-item.result (omega (arith, c.loop-block-test.true)) (omega arith) c.loop-block.invariant
    (c.count_in_file.ensures
    ∙ ap (λ o. with_counted o c.loop-block.counts.items) (c.find_block.ensures ∙ ap (file_index_of c.args.files.now) c.block-item.is))
