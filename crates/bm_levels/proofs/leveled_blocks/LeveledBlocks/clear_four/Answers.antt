use Rattle.std.proofs.Common.{arith}
use Rattle.bm_levels.specs.ClusterAfter.{is_on_node}
use Rattle.bm_levels.proofs.LeavingReplicas.{leaving_none, leaving_more}
use Rattle.bm_levels.proofs.leveled_blocks.LeveledBlocks.clear_four.Goals as goal

pub loop-pass-init : goal.loop-pass-init
loop-pass-init c = record { left = leaving_none (is_on_node c.args.cluster_after.now c.args.node) c.args.self.now.arena; few = omega arith; unused = λ b h. h; fewer = λ s h. h; levels = λ h. h }

pub loop-pass-preserved : goal.loop-pass-preserved
loop-pass-preserved c =
    let p = is_on_node c.args.cluster_after.now c.args.node in
    let inv = c.loop-pass.invariant in
    let made = c.remove_first_of_four-count.ensures in
    record {
      left = leaving_more p c.args.self.now.arena c.loop-pass.self.arena c.remove_first_of_four-count.new.self.arena c.loop-pass.removed c.remove_first_of_four-count.result inv.left made.left;
      few = omega (arith, inv.few, made.few);
      unused = λ b h. inv.unused b (made.unused b h);
      fewer = λ s h. inv.fewer s (made.fewer s h);
      levels = λ h. made.levels (inv.levels h);
    }

pub returns-then-count-eq0-clause-left : goal.returns-then-count-eq0-clause-left
returns-then-count-eq0-clause-left c =
    let p = is_on_node c.args.cluster_after.now c.args.node in
    leaving_more p c.args.self.now.arena c.loop-pass.self.arena c.remove_first_of_four-count.new.self.arena c.loop-pass.removed c.remove_first_of_four-count.result c.loop-pass.invariant.left c.remove_first_of_four-count.ensures.left

pub returns-then-count-eq0-clause-unused : goal.returns-then-count-eq0-clause-unused
returns-then-count-eq0-clause-unused c b h = c.loop-pass.invariant.unused b (c.remove_first_of_four-count.ensures.unused b h)

pub returns-then-count-eq0-clause-fewer : goal.returns-then-count-eq0-clause-fewer
returns-then-count-eq0-clause-fewer c s h = c.loop-pass.invariant.fewer s (c.remove_first_of_four-count.ensures.fewer s h)

pub returns-then-count-eq0-clause-levels : goal.returns-then-count-eq0-clause-levels
returns-then-count-eq0-clause-levels c h = c.remove_first_of_four-count.ensures.levels (c.loop-pass.invariant.levels h)
