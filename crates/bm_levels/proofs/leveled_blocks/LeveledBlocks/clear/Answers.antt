use Rattle.std.proofs.Common.{◌<◌, ◌+◌, ℕ, IsSome, subst, sym, ap, ◌∙◌, arith}
use Rattle.std.specs.Prelude.{◌==◌, nat_eq}
use Rattle.std.specs.Map.{lookup}
use Rattle.bm_base.specs.Words.{get, len}
use Rattle.bm_arena.specs.Contents.{Contents, block_at, IsLawful}
use Rattle.bm_levels.specs.ClusterAfter.{level_after}
use Rattle.bm_levels.specs.IndexedLevels.{level_of_slot}
use Rattle.bm_levels.proofs.LeavingReplicas.{few_on, leaving_none, leaving_more}
use Rattle.bm_levels.proofs.UnusedEntries.{unused_held, some_before}
use Rattle.bm_levels.proofs.leveled_blocks.LeveledBlocks.clear.Goals as goal

pub loop-self-init : goal.loop-self-init
loop-self-init c =
    let a = c.args.self.now.arena in
    let P : Contents → Type 0 = λ x. (slot : ℕ) → IsSome (block_at x slot) → slot < c.slot_bound-bound.result in
    let few = few_on a (subst IsLawful c.arena.ensures c.show_invariant.ensures) c.args.storage c.slot_bound-bound.result (subst P c.arena-2.ensures c.slot_bound-bound.ensures.above) in
    record { left = leaving_none (λ s. s == c.args.storage) a; few = omega (arith, few); unused = λ b h. h; fewer = λ s h. h; levels = λ h. h }

pub loop-self-preserved : goal.loop-self-preserved
loop-self-preserved c =
    let inv = c.loop-self.invariant in
    let made = c.remove_next-count.ensures in
    record {
      left = leaving_more (λ s. s == c.args.storage) c.args.self.now.arena c.loop-self.self.arena c.remove_next-count.new.self.arena c.loop-self.removed c.remove_next-count.result inv.left made.left;
      few = omega (arith, inv.few, made.list);
      unused = λ b h. inv.unused b (made.unused b h);
      fewer = λ s h. inv.fewer s (made.fewer s h);
      levels = λ h. made.levels (inv.levels h);
    }

pub returns-clause-left : goal.returns-clause-left
returns-clause-left c =
    let left = c.loop-self.invariant.left in
    let made = c.drop_list.ensures in
    record {
      blocks = made.blocks ∙ left.blocks;
      lists = λ s off. made.lists s ∙ left.lists s off;
      others = λ q off. ap (λ m. get m q) made.replicas ∙ left.others q off;
      count = ap (λ m. c.loop-self.removed + len m) made.replicas ∙ left.count;
    }

pub returns-clause-unused : goal.returns-clause-unused
returns-clause-unused c b unused =
    let a = c.loop-self.self.arena in
    let made = c.drop_list.ensures in
    c.loop-self.invariant.unused b (unused_held a c.drop_list.new.self.arena b (some_before (ap (lookup (nat_eq b)) made.numbers) unused.entry) made.blocks made.replicas unused)

pub returns-clause-fewer : goal.returns-clause-fewer
returns-clause-fewer c s h = c.loop-self.invariant.fewer s (c.drop_list.ensures.fewer s h)

pub returns-clause-levels : goal.returns-clause-levels
returns-clause-levels c h slot =
    let made = c.drop_list.ensures in
    ap (λ k. level_of_slot k slot) made.kept ∙ c.loop-self.invariant.levels h slot ∙ ap (level_after c.args.cluster_after.now) (sym (made.entries slot))
