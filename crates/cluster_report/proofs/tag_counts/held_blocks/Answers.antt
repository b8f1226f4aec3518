use Rattle.std.proofs.Common.{nat_eq, ap, ◌∙◌}
use Rattle.std.specs.List.{dedup}
use Rattle.std.proofs.lemmas.List.Filters.{dedup_is}
use Rattle.cluster_report.proofs.tag_counts.held_blocks.Goals as goal

pub returns : goal.returns
returns c = dedup_is nat_eq _ _ c.dedup.ensures.filtered ∙ ap (dedup nat_eq) c.in_ok-numbers.ensures
