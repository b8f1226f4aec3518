use Rattle.std.proofs.Common.{◌∙◌}
use Rattle.bm_levels.proofs.level_index.LevelIndex.for_slots.Goals as goal

pub returns-clause-levels : goal.returns-clause-levels
returns-clause-levels c = λ slot. (c.grow_to.ensures.same slot).level ∙ c.in_ok-index.ensures.levels slot

pub returns-clause-settled : goal.returns-clause-settled
returns-clause-settled c = λ slot u. c.in_ok-index.ensures.settled slot ((c.grow_to.ensures.same slot).unsettled.0 u)
