use Rattle.std.proofs.Common.{◌∙◌}
use Rattle.cluster_report.specs.Catalogues.{len_of}
use Rattle.cluster_report.specs.Levels.{level_bytes}
use Rattle.cluster_report.proofs.LengthLemmas.{level_bytes_are}
use Rattle.cluster_report.proofs.report.held_level_bytes.Goals as goal

pub returns : goal.returns
returns c =
    let blocks = c.args.manager.now.holdings.blocks in
    c.level_bytes.ensures
    ∙ level_bytes_are c.args.book.now.blocks blocks c.args.levels.now c.args.missing.now c.requires.follows.blocks
    ∙ (λ i. level_bytes (len_of blocks) (c.requires.levels i) (c.requires.missing i))
