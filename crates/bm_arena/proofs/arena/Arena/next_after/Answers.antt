use Rattle.std.proofs.Common.{◌∙◌}
use Rattle.bm_arena.proofs.Lawfulness.{next_after-list}
use Rattle.bm_arena.proofs.ListCalls.{no_replica}
use Rattle.bm_arena.proofs.arena.Arena.next_after.Goals as goal

pub returns-in-Some : goal.returns-in-Some
returns-in-Some c =
    rw (← c.self.view_is, ← c.storage.view_is, ← c.unwrap_or-slot.ensures)
    (c.slot.ensures ∙ next_after-list c.self.inside.slots c.self.inside.heads.entries c.storage.inside.0 c.unwrap_or-slot.result c.in-Some.triplet c.self.invariant.arena.sound c.in-Some.ensures)

pub returns-in-None : goal.returns-in-None
returns-in-None c =
    let there = rw (← c.self.view_is, ← c.storage.view_is, ← c.unwrap_or-slot.ensures) at c.requires in
    absurd (no_replica c.self.inside.slots c.storage.inside.0 c.unwrap_or-slot.result c.in-None.ensures there)
