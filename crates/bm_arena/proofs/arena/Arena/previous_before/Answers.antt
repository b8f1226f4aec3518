use Rattle.std.proofs.Common.{◌∙◌}
use Rattle.bm_arena.proofs.Lawfulness.{previous_before-list}
use Rattle.bm_arena.proofs.ListCalls.{no_replica}
use Rattle.bm_arena.proofs.arena.Arena.previous_before.Goals as goal

pub returns-in-Some : goal.returns-in-Some
returns-in-Some c =
    rw (← c.self.view_is, ← c.storage.view_is)
    (c.slot.ensures ∙ previous_before-list c.self.inside.slots c.self.inside.heads.entries c.storage.inside.0 c.args.slot c.in-Some.triplet c.self.invariant.arena.sound c.in-Some.ensures)

pub returns-in-None : goal.returns-in-None
returns-in-None c =
    let there = rw (← c.self.view_is, ← c.storage.view_is) at c.requires in
    absurd (no_replica c.self.inside.slots c.storage.inside.0 c.args.slot c.in-None.ensures there)
