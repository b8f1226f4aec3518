use Rattle.std.proofs.Common.{Some, ap, ◌∙◌}
use Rattle.bm_arena.proofs.ListReads.{walk-listed, walk-headless}
use Rattle.bm_arena.proofs.arena.Arena.walk.Goals as goal
use Rattle.bm_arena.proofs.arena.Arena.walk.Goals.{in-Some, in-None}

pub returns : goal.returns
returns c =
    rw (← c.self.view_is, ← c.storage.view_is)
    (elim c.match-get.branch [
      | in-Some w ↦ walk-listed c.self.inside.slots c.self.inside.heads.entries c.storage.inside.0 c.capacity.result c.match-get.first c.self.invariant.arena.sound c.capacity.ensures.slots (ap Some w.first-is ∙ w.in-Some.ensures.value)
      | in-None w ↦ walk-headless c.self.inside.slots c.self.inside.heads.entries c.storage.inside.0 c.capacity.result c.match-get.first w.in-None.ensures.value w.first-is
    ])
