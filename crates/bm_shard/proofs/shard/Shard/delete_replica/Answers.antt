use Rattle.std.proofs.Common.{cond, subst, sym, ap, ◌∙◌}
use Rattle.bm_base.specs.Words.{replica_at, done}
use Rattle.bm_base.specs.Machine.Events as events
use Rattle.bm_arena.specs.Contents.{IsLawful}
use Rattle.bm_levels.specs.SlotHoldings.{holdings_with}
use Rattle.bm_shard.proofs.ChangedBlocks.{changed_seen}
use Rattle.bm_shard.proofs.Counts.{gone_by_remove}
use Rattle.bm_shard.proofs.OneGone.{one_gone}
use Rattle.bm_levels.specs.UnusedEntries.{HasNoUnused}
use Rattle.bm_shard.proofs.UnusedEntries.{none_kept, none_outside}
use Rattle.bm_shard.proofs.shard.Shard.delete_replica.Goals as goal

pub returns-clause-changed : goal.returns-clause-changed
unfolding holdings_with events.remove_replica done
returns-clause-changed c =
    let C = c.args.topology.now.cluster in
    let old = c.self.inside in
    let held = holdings_with old.blocks.arena old.pending.map in
    let none = gone_by_remove held.replicas (replica_at c.args.id c.args.storage) in
    let changed = c.remove_replica-is_removed.ensures in
    let removed = c.count_if.ensures ∙ ap (λ b. cond b 1 0) changed.removed ∙ sym (one_gone held.replicas (replica_at c.args.id c.args.storage)) in
    changed_seen C C old.blocks c.remove_replica-is_removed.new.self old.pending.map old.pending.map (subst (λ a. IsLawful a) c.arena.ensures c.show_invariant-2.ensures) c.show_invariant.ensures (subst (λ a. IsLawful a) c.arena-2.ensures c.show_invariant-3.ensures)
    changed.levels old.part old.round old.pend _ _ (λ H. events.remove_replica H (replica_at c.args.id c.args.storage)) _ c.args.self.now c.self.view_is
    (λ i. record { blocks = changed.blocks i; replicas = changed.replicas i; pending = old.pending.map })
    (λ i. record { added = sym none.0 i; removed = removed i })

none : (c : goal.After-count_if) → HasNoUnused c.remove_replica-is_removed.new.self.arena
none c = none_kept c.self.inside.blocks c.self.inside.pending.map c.self.inside.part c.self.inside.round c.self.inside.pend _ _ c.remove_replica-is_removed.new.self c.args.self.now c.self.view_is c.requires.none (c.remove_replica-is_removed.ensures.unused)

pub invariant_of-self : goal.invariant_of-self
invariant_of-self c = record { index = c.self.invariant.index; ready = tt; unused = λ b h. absurd (none c b h) }

pub returns-clause-unused : goal.returns-clause-unused
returns-clause-unused c = none_outside c.remove_replica-is_removed.new.self c.self.inside.pending.map c.self.inside.part c.self.inside.round c.self.inside.pend _ _ (none c)
