use Rattle.bm_queues.specs.DenseLevels.{levels_in, arrays_in}
use Rattle.bm_queues.proofs.LevelLaws.{lawful-levels, visited-levels, seen-array, array-exact, array-once}
use Rattle.bm_queues.proofs.level_lists.LevelLists.show_invariant.Goals as goal

pub returns-clause-lawful : goal.returns-clause-lawful
returns-clause-lawful c = rw (← c.self.view_is) (lawful-levels _ _ _ c.self.invariant.0)

pub returns-clause-visited : goal.returns-clause-visited
returns-clause-visited c = rw (← c.self.view_is) (visited-levels _ _ _ c.self.invariant.0)

pub returns-clause-exact : goal.returns-clause-exact
returns-clause-exact c l slot = rw (← c.self.view_is, seen-array (levels_in c.self.inside.cells.items) (arrays_in c.self.inside.arrays.items) l) (array-exact _ _ _ c.self.invariant.0 l slot)

pub returns-clause-once : goal.returns-clause-once
returns-clause-once c l = rw (← c.self.view_is, seen-array (levels_in c.self.inside.cells.items) (arrays_in c.self.inside.arrays.items) l) (array-once _ _ _ c.self.invariant.0 l)
