use Rattle.bm_levels.proofs.Wishes.{are_needing_copies, needing_copies_once}
use Rattle.bm_levels.proofs.level_index.LevelIndex.show_invariant.Goals as goal

pub returns-clause-listed : goal.returns-clause-listed
returns-clause-listed c = rw (← c.self.view_is) c.show_invariant.ensures.exact

pub returns-clause-once : goal.returns-clause-once
returns-clause-once c = rw (← c.self.view_is) c.show_invariant.ensures.once

pub returns-clause-needing_copies : goal.returns-clause-needing_copies
returns-clause-needing_copies c = are_needing_copies c.args.self.now (returns-clause-listed c)

pub returns-clause-needing_copies_once : goal.returns-clause-needing_copies_once
returns-clause-needing_copies_once c = needing_copies_once c.args.self.now (returns-clause-listed c) (returns-clause-once c)
