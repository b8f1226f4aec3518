use Rattle.std.proofs.Common.{sym, ◌∙◌}
use Rattle.bm_levels.proofs.GroupedReplicas.{storage_there}
use Rattle.bm_levels.proofs.listed_replicas.is_storage_at.Goals as goal

pub returns-then-at-listed : goal.returns-then-at-listed
returns-then-at-listed c e =
    storage_there c.args.listed.now c.args.storage c.args.at c.index-listed-at.result c.if-at-listed.true (sym c.eq.ensures ∙ e)
