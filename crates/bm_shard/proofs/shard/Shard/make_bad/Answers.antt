use Rattle.std.proofs.Common.{subst, sym}
use Rattle.bm_base.specs.Words.{revise_at, replica_at, done}
use Rattle.bm_base.specs.Machine.Events as events
use Rattle.bm_arena.specs.Contents.{IsLawful}
use Rattle.bm_levels.specs.SlotHoldings.{holdings_with}
use Rattle.bm_shard.proofs.ChangedBlocks.{changed_seen}
use Rattle.bm_shard.proofs.Counts.{none_by_revise}
use Rattle.bm_levels.specs.UnusedEntries.{HasNoUnused}
use Rattle.bm_shard.proofs.UnusedEntries.{none_kept, none_outside, unused_by, none_revised_at, same_none}
use Rattle.bm_shard.proofs.shard.Shard.make_bad.Goals as goal

pub returns-clause-changed : goal.returns-clause-changed
unfolding holdings_with events.make_bad revise_at done
returns-clause-changed c =
    let C = c.args.topology.now.cluster in
    let old = c.self.inside in
    let held = holdings_with old.blocks.arena old.pending.map in
    let none = none_by_revise held.replicas _ in
    let changed = c.make_bad.ensures in
    changed_seen C C old.blocks c.make_bad.new.self old.pending.map old.pending.map (subst (λ a. IsLawful a) c.arena.ensures c.show_invariant-2.ensures) c.show_invariant.ensures (subst (λ a. IsLawful a) c.arena-2.ensures c.show_invariant-3.ensures)
    changed.levels old.part old.round old.pend _ _ (λ H. events.make_bad H (replica_at c.args.id c.args.storage)) _ c.args.self.now c.self.view_is
    (λ i. record { blocks = changed.blocks i; replicas = changed.replicas i; pending = old.pending.map })
    (λ i. record { added = sym none.0 i; removed = sym none.1 i })

none : (c : goal.After-show_invariant-3) → HasNoUnused c.make_bad.new.self.arena
none c = none_kept c.self.inside.blocks c.self.inside.pending.map c.self.inside.part c.self.inside.round c.self.inside.pend _ _ c.make_bad.new.self c.args.self.now c.self.view_is c.requires.none (unused_by c.self.inside.blocks.arena c.make_bad.new.self.arena c.make_bad.ensures.numbers (same_none _ _ c.make_bad.ensures.blocks) (none_revised_at _ _ _ _ c.make_bad.ensures.replicas))

pub invariant_of-self : goal.invariant_of-self
invariant_of-self c = record { index = c.self.invariant.index; ready = tt; unused = λ b h. absurd (none c b h) }

pub returns-clause-unused : goal.returns-clause-unused
returns-clause-unused c = none_outside c.make_bad.new.self c.self.inside.pending.map c.self.inside.part c.self.inside.round c.self.inside.pend _ _ (none c)
