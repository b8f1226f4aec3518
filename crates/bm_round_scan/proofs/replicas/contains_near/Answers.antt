use Rattle.std.proofs.Common.{◌∙◌}
use Rattle.bm_topo.proofs.Repeats.{has_from_search}
use Rattle.bm_round_scan.proofs.replicas.contains_near.Goals as goal

pub returns : goal.returns
returns c = c.is_ok.ensures.value ∙ has_from_search c.args.storages.now c.args.storage c.binary_search-found.result c.binary_search-found.ensures.position c.requires
