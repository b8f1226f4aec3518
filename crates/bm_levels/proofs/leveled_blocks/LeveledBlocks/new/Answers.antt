use Rattle.std.proofs.Common.{subst, ◌∙◌}
use Rattle.bm_levels.specs.IndexedLevels.{HasCapacityFor}
use Rattle.bm_levels.proofs.EmptyArena.{leveled_new, levels_new}
use Rattle.bm_levels.proofs.leveled_blocks.LeveledBlocks.new.Goals as goal

pub invariant_of-result : goal.invariant_of-result
invariant_of-result c =
    leveled_new c.in_ok-arena.arena c.in-Ok.level_index c.in_ok-arena.ensures.blocks c.in_ok-arena.ensures.delimiter
    c.in-Ok.ensures.levels c.in-Ok.ensures.settled
    (subst (HasCapacityFor c.in-Ok.level_index) (c.slot_bound.ensures.bound ∙ c.in_ok-arena.ensures.bound) c.in-Ok.ensures.capacity)

pub returns-in-Ok-clause-levels : goal.returns-in-Ok-clause-levels
returns-in-Ok-clause-levels c =
    levels_new c.in_ok-arena.arena c.in-Ok.level_index c.in_ok-arena.ensures.blocks c.in_ok-arena.ensures.delimiter
    c.in-Ok.ensures.levels c.in-Ok.ensures.settled
