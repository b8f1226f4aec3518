use Rattle.std.proofs.Common.{refl}
use Rattle.bm_arena.proofs.ListReads.{empty-headed, empty-headless}
use Rattle.bm_arena.proofs.arena.Arena.is_list_empty.Goals as goal

pub returns-in-Some : goal.returns-in-Some
returns-in-Some c =
    rw (← c.self.view_is, ← c.storage.view_is)
    (empty-headed c.self.inside.slots c.self.inside.heads.entries c.storage.inside.0 c.in-Some.first.now c.slot.result c.is_none.result c.self.invariant.arena.sound c.in-Some.ensures.value c.slot.ensures c.is_none.ensures)

pub returns-in-None : goal.returns-in-None
returns-in-None c =
    rw (← c.self.view_is, ← c.storage.view_is)
    (λ _. empty-headless c.self.inside.slots c.self.inside.heads.entries c.storage.inside.0 c.in-None.ensures.value, λ _. refl)
