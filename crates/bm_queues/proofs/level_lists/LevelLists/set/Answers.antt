use Rattle.bm_queues.proofs.LevelLaws.{lawful-levels}
use Rattle.bm_queues.proofs.level_lists.LevelLists.set.Goals as goal

pub returns-then-is-clause-lawful : goal.returns-then-is-clause-lawful
returns-then-is-clause-lawful c = rw (← c.self.view_is) (lawful-levels _ _ _ c.self.invariant.0)
