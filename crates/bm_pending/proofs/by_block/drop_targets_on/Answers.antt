use Rattle.std.proofs.Common.{rules, not, ℕ, filter}
use Rattle.bm_base.specs.Maps.Lists.{has}
use Rattle.std.proofs.lemmas.Map.Made.{map_same_pairs}
use Rattle.bm_pending.specs.Inside.{PendingTargets}
use Rattle.bm_pending.proofs.Blocks.{filtered-targets, filtered-capacities}
use Rattle.bm_pending.proofs.by_block.drop_targets_on.Goals as goal

pub returns-clause-targets : goal.returns-clause-targets
returns-clause-targets c =
    filtered-targets c.args.blocks.now.entries c.retain.new.self.entries (λ (e : ℕ × ℕ). not (has c.args.storages.now e.0))
    (map_same_pairs _ (λ (v : PendingTargets). record v { items = filter (λ (e : ℕ × ℕ). not (has c.args.storages.now e.0)) v.items }) _ (λ k v b w f' t. search rules) _ _ c.retain.ensures.filtered)

pub returns-clause-capacities : goal.returns-clause-capacities
returns-clause-capacities c =
    filtered-capacities c.args.blocks.now.entries c.retain.new.self.entries (λ (e : ℕ × ℕ). not (has c.args.storages.now e.0))
    (map_same_pairs _ (λ (v : PendingTargets). record v { items = filter (λ (e : ℕ × ℕ). not (has c.args.storages.now e.0)) v.items }) _ (λ k v b w f' t. search rules) _ _ c.retain.ensures.filtered)
