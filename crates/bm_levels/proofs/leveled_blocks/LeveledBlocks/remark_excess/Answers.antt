use Rattle.std.proofs.Common.{subst, sym}
use Rattle.bm_arena.specs.Contents.{Contents, IsLawful}
use Rattle.bm_levels.specs.Changes.{at_round_start, AreInOrder}
use Rattle.bm_levels.proofs.GroupedReplicas.{surplus_in_order}
use Rattle.bm_levels.proofs.RoundStart.{IsStarted, started}
use Rattle.bm_levels.proofs.leveled_blocks.LeveledBlocks.remark_excess.Goals as goal

pub mark_surplus-requires : goal.mark_surplus-requires
mark_surplus-requires c = subst AreInOrder (sym c.requires.surplus) (surplus_in_order c.args.topology.now.cluster (at_round_start c.args.self.now.arena))

start : (c : goal.After-mark_surplus) → IsStarted c.args.topology.now.cluster c.args.self.now c.mark_surplus.new.self.arena
start c =
    let begun = c.clear_unordered_excess.ensures in
    let marks = c.mark_surplus.ensures in
    let P : Contents → Type 0 = λ a. IsLawful a in
    started c.args.topology.now.cluster c.args.self.now (subst P c.arena.ensures c.show_invariant-2.ensures) c.show_invariant.ensures c.clear_unordered_excess.new.self.arena c.mark_surplus.new.self.arena c.args.surplus.now
    begun.begun begun.others begun.entries marks.replicas marks.others marks.entries c.requires.surplus

pub returns-clause-replicas : goal.returns-clause-replicas
returns-clause-replicas c = (start c).replicas

pub returns-clause-blocks : goal.returns-clause-blocks
returns-clause-blocks c = (start c).blocks

pub returns-clause-levels : goal.returns-clause-levels
returns-clause-levels c = λ were. c.mark_surplus.ensures.levels (c.clear_unordered_excess.ensures.levels were)
