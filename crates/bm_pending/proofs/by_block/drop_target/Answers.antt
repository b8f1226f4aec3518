use Rattle.std.proofs.Common.{not, rules}
use Rattle.std.specs.Prelude.{◌==◌}
use Rattle.bm_pending.proofs.Lists.{filter-RetainsInTurn}
use Rattle.bm_pending.proofs.by_block.drop_target.Goals as goal

pub returns-clause-items : goal.returns-clause-items
returns-clause-items c = filter-RetainsInTurn _ (λ e. not (e.0 == c.args.storage)) _ (λ x b t y k. search rules) _ _ c.retain.ensures.filtered
