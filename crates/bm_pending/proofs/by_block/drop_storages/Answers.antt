use Rattle.std.proofs.Common.{rules, not, ℕ}
use Rattle.bm_base.specs.Maps.Lists.{has}
use Rattle.bm_pending.proofs.Lists.{filter-RetainsInTurn, same_vec}
use Rattle.bm_pending.proofs.by_block.drop_storages.Goals as goal

pub returns : goal.returns
returns c = same_vec c.retain.new.self c.args.targets.now _ (filter-RetainsInTurn _ (λ (e : ℕ × ℕ). not (has c.args.storages.now e.0)) _ (λ x b t y k. search rules) _ _ c.retain.ensures.filtered) c.retain.ensures.capacity
