use Rattle.std.proofs.Common.{refl, subst, sym}
use Rattle.bm_base.specs.Words.{heartbeat, done}
use Rattle.bm_arena.specs.Contents.{IsLawful}
use Rattle.bm_levels.specs.SlotHoldings.{holdings_with}
use Rattle.bm_levels.proofs.UpToDate.{heartbeat_leaves}
use Rattle.bm_shard.proofs.ChangedBlocks.{changed_seen}
use Rattle.bm_shard.proofs.Counts.{same_replicas}
use Rattle.bm_levels.specs.UnusedEntries.{HasNoUnused}
use Rattle.bm_shard.proofs.UnusedEntries.{none_kept, none_outside}
use Rattle.bm_shard.proofs.shard.Shard.note_heartbeat.Goals as goal

pub returns-clause-changed : goal.returns-clause-changed
unfolding holdings_with done
returns-clause-changed c C remaining =
    let old = c.self.inside in
    let none = same_replicas (holdings_with old.blocks.arena old.pending.map).replicas in
    let lawful = subst (λ a. IsLawful a) c.arena.ensures c.show_invariant-2.ensures in
    changed_seen C (heartbeat C remaining) old.blocks old.blocks old.pending.map old.pending.map lawful c.show_invariant.ensures lawful
    (heartbeat_leaves C remaining old.blocks) old.part old.round old.pend _ _ (λ H. H) _ c.args.self.now c.self.view_is refl
    (λ i. record { added = sym none i; removed = sym none i })

none : (c : goal.After-show_invariant-2) → HasNoUnused c.self.inside.blocks.arena
none c = none_kept c.self.inside.blocks c.self.inside.pending.map c.self.inside.part c.self.inside.round c.self.inside.pend _ _ c.self.inside.blocks c.args.self.now c.self.view_is c.requires.none (λ b h. h)

pub invariant_of-self : goal.invariant_of-self
invariant_of-self c = record { index = c.self.invariant.index; ready = tt; unused = λ b h. absurd (none c b h) }

pub returns-clause-unused : goal.returns-clause-unused
returns-clause-unused c = none_outside c.self.inside.blocks c.self.inside.pending.map c.self.inside.part c.self.inside.round c.self.inside.pend _ _ (none c)
