use Rattle.bm_arena.proofs.Bounds.{below-seen}
use Rattle.bm_arena.proofs.arena.Arena.slot_bound.Goals as goal

pub returns-clause-above : goal.returns-clause-above
returns-clause-above c slot held = below-seen c.self.inside.slots c.self.inside.bound c.self.invariant.bounded slot (rw (← c.self.view_is) at held)
