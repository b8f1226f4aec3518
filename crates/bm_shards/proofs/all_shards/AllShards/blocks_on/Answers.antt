use Rattle.std.proofs.Common.{◌∙◌}
use Rattle.bm_shards.proofs.Questions.{sorted_blocks_on}
use Rattle.bm_shards.proofs.all_shards.AllShards.blocks_on.Goals as goal

pub returns-clause-blocks : goal.returns-clause-blocks
returns-clause-blocks c =
    c.from_vec.ensures
    ∙ sorted_blocks_on c.self.inside.shards.items _ _ _ c.self.invariant c.deref-one-items.ensures.value c.loop-one-test.false c.self.view_is c.args.storage _ _ c.loop-one.invariant c.sort.ensures.permutation c.in_ok-sort.ensures.sorted
