use Rattle.std.proofs.Common.{subst, sym}
use Rattle.bm_base.specs.Machine.Events as events
use Rattle.bm_base.specs.Machine.Calls.{done}
use Rattle.bm_arena.specs.Contents.{IsLawful}
use Rattle.bm_levels.specs.SlotHoldings.{holdings_with}
use Rattle.bm_shard.proofs.ChangedBlocks.{changed_seen}
use Rattle.bm_shard.proofs.Counts.{same_replicas}
use Rattle.bm_levels.specs.UnusedEntries.{HasNoUnused}
use Rattle.bm_shard.proofs.UnusedEntries.{none_kept, none_outside, unused_by, none_revised_at, same_none}
use Rattle.bm_shard.proofs.shard.Shard.set_replication.Goals as goal

pub returns-clause-changed : goal.returns-clause-changed
unfolding holdings_with events.set_replication done
returns-clause-changed c =
    let C = c.args.topology.now.cluster in
    let old = c.self.inside in
    let held = holdings_with old.blocks.arena old.pending.map in
    let none = same_replicas held.replicas in
    let changed = c.set_replication.ensures in
    changed_seen C C old.blocks c.set_replication.new.self old.pending.map old.pending.map (subst (λ a. IsLawful a) c.arena.ensures c.show_invariant-2.ensures) c.show_invariant.ensures (subst (λ a. IsLawful a) c.arena-2.ensures c.show_invariant-3.ensures)
    changed.levels old.part old.round old.pend _ _ (λ H. events.set_replication H c.args.id c.args.repl) _ c.args.self.now c.self.view_is
    (λ i. record { blocks = changed.blocks i; replicas = changed.replicas i; pending = old.pending.map })
    (λ i. record { added = sym none i; removed = sym none i })

none : (c : goal.After-show_invariant-3) → HasNoUnused c.set_replication.new.self.arena
none c = none_kept c.self.inside.blocks c.self.inside.pending.map c.self.inside.part c.self.inside.round c.self.inside.pend _ _ c.set_replication.new.self c.args.self.now c.self.view_is c.requires.none (unused_by c.self.inside.blocks.arena c.set_replication.new.self.arena c.set_replication.ensures.numbers (none_revised_at _ _ c.args.id _ c.set_replication.ensures.blocks) (same_none _ _ c.set_replication.ensures.replicas))

pub invariant_of-self : goal.invariant_of-self
invariant_of-self c = record { index = c.self.invariant.index; ready = tt; unused = λ b h. absurd (none c b h) }

pub returns-clause-unused : goal.returns-clause-unused
returns-clause-unused c = none_outside c.set_replication.new.self c.self.inside.pending.map c.self.inside.part c.self.inside.round c.self.inside.pend _ _ (none c)
