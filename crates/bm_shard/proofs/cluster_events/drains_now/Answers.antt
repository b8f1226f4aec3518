use Rattle.std.proofs.Common.{false, ap, ◌∙◌}
use Rattle.std.specs.Option.{unwrap_or}
use Rattle.bm_shard.proofs.Transfers.{drains_known}
use Rattle.bm_shard.proofs.cluster_events.drains_now.Goals as goal

pub returns : goal.returns
returns c = c.unwrap_or.ensures ∙ ap (λ o. unwrap_or o false) c.node_drains.ensures ∙ drains_known c.args.topology.now.cluster c.args.node c.show_invariant.ensures
