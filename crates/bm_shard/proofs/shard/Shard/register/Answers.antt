use Rattle.std.proofs.Common.{ap, subst, sym}
use Rattle.bm_base.specs.Words.{register, done}
use Rattle.bm_parts.specs.PlacedLaws.{IsPlaced}
use Rattle.bm_arena.specs.Contents.{IsLawful}
use Rattle.bm_levels.specs.SlotHoldings.{holdings_with}
use Rattle.bm_shard.specs.ShardView.{Seen}
use Rattle.bm_shard.proofs.ChangedBlocks.{changed_seen}
use Rattle.bm_shard.proofs.Counts.{same_replicas}
use Rattle.bm_shard.proofs.NewNodes.{same_next_to}
use Rattle.bm_levels.specs.UnusedEntries.{HasNoUnused}
use Rattle.bm_shard.proofs.UnusedEntries.{none_kept, none_outside, same_unused}
use Rattle.bm_shard.proofs.shard.Shard.register.Goals as goal

pub returns-clause-changed : goal.returns-clause-changed
unfolding done holdings_with
returns-clause-changed c node rack storages fine multi =
    let C = c.args.topology.now.cluster in
    let D = register C node rack storages in
    let old = c.self.inside in
    let none = same_replicas (holdings_with old.blocks.arena old.pending.map).replicas in
    let P : Seen → Type 0 = λ s. IsPlaced C s.holdings in
    let placed = subst P (sym c.self.view_is) c.requires.placed in
    let same = same_next_to C old.blocks.arena old.pending.map node rack storages c.show_invariant.ensures placed fine in
    changed_seen C D old.blocks c.reclassify_for_racks.new.self old.pending.map old.pending.map (subst (λ a. IsLawful a) c.arena.ensures c.show_invariant-3.ensures) c.show_invariant-2.ensures (subst (λ a. IsLawful a) c.arena-2.ensures c.show_invariant-4.ensures)
    (c.reclassify_for_racks.ensures.levels D multi same) old.part old.round old.pend _ _ (λ H. H) _ c.args.self.now c.self.view_is
    (ap (λ a. holdings_with a old.pending.map) c.reclassify_for_racks.ensures.arena) (λ i. record { added = sym none i; removed = sym none i })

none : (c : goal.After-show_invariant-4) → HasNoUnused c.reclassify_for_racks.new.self.arena
none c = none_kept c.self.inside.blocks c.self.inside.pending.map c.self.inside.part c.self.inside.round c.self.inside.pend _ _ c.reclassify_for_racks.new.self c.args.self.now c.self.view_is c.requires.none (same_unused c.self.inside.blocks.arena c.reclassify_for_racks.new.self.arena c.reclassify_for_racks.ensures.arena)

pub invariant_of-self : goal.invariant_of-self
invariant_of-self c = record { index = c.self.invariant.index; ready = tt; unused = λ b h. absurd (none c b h) }

pub returns-clause-unused : goal.returns-clause-unused
returns-clause-unused c = none_outside c.reclassify_for_racks.new.self c.self.inside.pending.map c.self.inside.part c.self.inside.round c.self.inside.pend _ _ (none c)
