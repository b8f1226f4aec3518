use Rattle.std.proofs.Common.{not, ap, subst, sym, ◌∙◌}
use Rattle.bm_base.specs.Words.{has_storage, without_node, without_storages, done, new_replicas}
use Rattle.bm_arena.specs.Contents.{IsLawful}
use Rattle.bm_arena.specs.HeldMaps.{replicas_of}
use Rattle.bm_levels.specs.SlotHoldings.{holdings_with}
use Rattle.bm_shard.proofs.ChangedBlocks.{changed_seen}
use Rattle.bm_shard.proofs.Counts.{gone_by_keep}
use Rattle.bm_levels.specs.UnusedEntries.{HasNoUnused}
use Rattle.bm_shard.proofs.UnusedEntries.{none_kept, none_outside}
use Rattle.bm_shard.proofs.LeavingStorages.{none_listed}
use Rattle.bm_shard.proofs.shard.Shard.forget_node.Goals as goal

pub returns-clause-changed : goal.returns-clause-changed
unfolding holdings_with without_storages done
returns-clause-changed c =
    let C = c.args.topology.now.cluster in
    let old = c.self.inside in
    let left = c.forget_node-removed.ensures in
    let R = replicas_of old.blocks.arena in
    let none = (gone_by_keep R (λ q. not (has_storage C c.args.node q.storage))).0 in
    let went = left.removed ∙ ap (λ m. new_replicas m R) left.replicas in
    changed_seen C (without_node C c.args.node) old.blocks c.forget_node-removed.new.self old.pending.map c.drop_transfers_to.new.pending.map
    (subst (λ a. IsLawful a) c.arena.ensures c.show_invariant-2.ensures) c.show_invariant.ensures (subst (λ a. IsLawful a) c.arena-2.ensures c.show_invariant-3.ensures)
    left.levels old.part old.round old.pend _ _ (λ H. without_storages H (has_storage C c.args.node)) _ c.args.self.now c.self.view_is
    (λ i. record { blocks = left.blocks i; replicas = left.replicas i; pending = c.drop_transfers_to.ensures i })
    (λ i. record { added = sym none i; removed = went i })

none : (c : goal.After-drop_transfers_to) → HasNoUnused c.forget_node-removed.new.self.arena
none c = none_kept c.self.inside.blocks c.self.inside.pending.map c.self.inside.part c.self.inside.round c.self.inside.pend _ _ c.forget_node-removed.new.self c.args.self.now c.self.view_is c.requires.none (c.forget_node-removed.ensures.unused)

pub invariant_of-self : goal.invariant_of-self
invariant_of-self c = record { index = c.self.invariant.index; ready = tt; unused = λ b h. absurd (none c b h) }

pub returns-clause-unused : goal.returns-clause-unused
returns-clause-unused c = none_outside c.forget_node-removed.new.self c.drop_transfers_to.new.pending.map c.self.inside.part c.self.inside.round c.self.inside.pend _ _ (none c)

pub returns-clause-lists : goal.returns-clause-lists
returns-clause-lists c = none_listed c.forget_node-removed.new.self.arena (has_storage c.args.topology.now.cluster c.args.node) c.forget_node-removed.ensures.heads
