use Rattle.std.specs.Prelude.{not}
use Rattle.std.proofs.Common.{◌∙◌}
use Rattle.bm_base.specs.Maps.Map.{keep}
use Rattle.bm_shard.proofs.cluster_events.drop_transfers_to.Goals as goal

pub returns : goal.returns
returns c = c.drop_storages.ensures.map ∙ (λ i. keep c.args.pending.now.map (λ q _. not (c.storages_of.ensures.each q.storage i)))
