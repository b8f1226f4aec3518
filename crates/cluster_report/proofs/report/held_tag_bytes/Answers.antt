use Rattle.std.proofs.Common.{◌∙◌}
use Rattle.cluster_report.specs.Catalogues.{len_of}
use Rattle.cluster_report.specs.TagTotals.{tag_bytes}
use Rattle.cluster_report.proofs.LengthLemmas.{tag_bytes_are}
use Rattle.cluster_report.proofs.report.held_tag_bytes.Goals as goal

pub returns : goal.returns
returns c =
    let blocks = c.args.manager.now.holdings.blocks in
    c.tag_bytes.ensures
    ∙ tag_bytes_are c.args.book.now.blocks blocks c.args.replicas.now c.requires.follows.blocks
    ∙ (λ i. tag_bytes (len_of blocks) (c.requires.replicas i))
