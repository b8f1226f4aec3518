use Rattle.std.proofs.Common.{rules, not, nat_le, ◌-◌, ℕ}
use Rattle.bm_pending.proofs.Lists.{filter-RetainsInTurn, same_vec}
use Rattle.bm_pending.proofs.by_block.drop_expired.Goals as goal

pub returns : goal.returns
returns c = same_vec c.retain.new.self c.args.targets.now _ (filter-RetainsInTurn _ (λ (e : ℕ × ℕ). not (nat_le c.args.pend (c.args.round - e.1))) _ (λ x b t y k. search rules) _ _ c.retain.ensures.filtered) c.retain.ensures.capacity
