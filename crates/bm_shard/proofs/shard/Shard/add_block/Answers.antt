use Rattle.std.proofs.Common.{◌∙◌, subst, sym}
use Rattle.bm_base.specs.Words.{add_block, done}
use Rattle.bm_maps.specs.SlotLists.{IsMember}
use Rattle.bm_arena.specs.Contents.{IsLawful}
use Rattle.bm_levels.specs.SlotHoldings.{holdings_with}
use Rattle.bm_shard.specs.ShardView.{Seen}
use Rattle.bm_shard.proofs.ChangedBlocks.{changed_seen}
use Rattle.bm_shard.proofs.Counts.{same_replicas}
use Rattle.bm_shard.proofs.Numbers.{has_entry}
use Rattle.bm_levels.specs.UnusedEntries.{HasNoUnused}
use Rattle.bm_shard.proofs.UnusedEntries.{none_outside, unused_by, none_put, same_none}
use Rattle.bm_shard.proofs.shard.Shard.add_block.Goals as goal

pub add_block-requires : goal.add_block-requires
add_block-requires c = record {
  entry =
      let P : Seen → Type 0 = λ s. IsMember c.args.id s.reserved.entries in
      has_entry c.self.inside.blocks.arena c.args.id (subst P (sym c.self.view_is) c.requires.entry);
}

pub returns-clause-changed : goal.returns-clause-changed
unfolding holdings_with add_block done
returns-clause-changed c =
    let C = c.args.topology.now.cluster in
    let old = c.self.inside in
    let none = same_replicas (holdings_with old.blocks.arena old.pending.map).replicas in
    let added = c.add_block.ensures in
    let dropped = c.drop_prepared.ensures in
    changed_seen C C old.blocks c.drop_prepared.new.blocks old.pending.map old.pending.map (subst (λ a. IsLawful a) c.arena.ensures c.show_invariant-2.ensures) c.show_invariant.ensures (subst (λ a. IsLawful a) c.arena-2.ensures c.show_invariant-3.ensures)
    (λ h. dropped.levels C (added.levels h)) old.part old.round old.pend _ _ (λ H. add_block H c.args.id c.args.stamp c.args.repl) _ c.args.self.now c.self.view_is
    (λ i. record { blocks = (dropped.blocks ∙ added.blocks) i; replicas = (dropped.replicas ∙ added.replicas) i; pending = old.pending.map })
    (λ i. record { added = sym none i; removed = sym none i })

none : (c : goal.After-show_invariant-3) → HasNoUnused c.drop_prepared.new.blocks.arena
none c = λ b unused. c.drop_prepared.ensures.left b (c.self.invariant.unused b (unused_by c.self.inside.blocks.arena c.add_block.new.self.arena c.add_block.ensures.numbers (none_put _ _ c.args.id _ c.add_block.ensures.blocks) (same_none _ _ c.add_block.ensures.replicas) b (c.drop_prepared.ensures.unused b unused))) unused

pub invariant_of-self : goal.invariant_of-self
invariant_of-self c = record { index = c.self.invariant.index; ready = tt; unused = λ b h. absurd (none c b h) }

pub returns-clause-unused : goal.returns-clause-unused
returns-clause-unused c = none_outside c.drop_prepared.new.blocks c.self.inside.pending.map c.self.inside.part c.self.inside.round c.self.inside.pend _ _ (none c)
