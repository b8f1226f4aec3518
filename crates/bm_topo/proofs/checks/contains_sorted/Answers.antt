use Rattle.std.proofs.Common.{◌∙◌}
use Rattle.bm_topo.proofs.Repeats.{has_from_search}
use Rattle.bm_topo.proofs.checks.contains_sorted.Goals as goal

pub returns : goal.returns
returns c = c.is_ok.ensures.value ∙ has_from_search c.args.ordered.now c.args.storage c.binary_search.result c.binary_search.ensures.position c.requires
