use Rattle.bm_arena.proofs.Lawfulness.{IsLawful-arena}
use Rattle.std.proofs.Common.{arith, refl}
use Rattle.bm_arena.proofs.DroppedHead.{drop_head-arena, drop_head-lists, drop_head-list, drop_head-head, drop_head-gone, drop_head-fewer}
use Rattle.bm_arena.proofs.arena.Arena.drop_head.Goals as goal

pub invariant_of-self : goal.invariant_of-self
invariant_of-self c =
    let empty = rw (← c.self.view_is, ← c.storage.view_is) at c.requires in
    record {
      arena =
          drop_head-arena c.self.inside.slots c.self.inside.ids c.self.inside.heads.entries c.swap_remove.new.self.entries c.self.inside.delimiter c.storage.inside.0 c.self.invariant.arena empty
          c.swap_remove.ensures.updates.0 c.swap_remove.ensures.unique (omega (arith, c.swap_remove.ensures.len));
      bounded = c.self.invariant.bounded;
    }

pub returns-clause-after : goal.returns-clause-after
returns-clause-after c =
    let empty = rw (← c.self.view_is, ← c.storage.view_is) at c.requires in
    rw (
      ← c.self.view_is,
      ← c.storage.view_is,
      drop_head-lists c.self.inside.slots c.self.inside.ids c.self.inside.heads.entries c.swap_remove.new.self.entries c.self.inside.delimiter c.storage.inside.0 c.self.invariant.arena empty
          c.swap_remove.ensures.updates.0 c.swap_remove.ensures.entries,
    ) refl

pub returns-clause-lawful : goal.returns-clause-lawful
returns-clause-lawful c = IsLawful-arena _ _ _ _ _ (invariant_of-self c) _

pub returns-clause-lists : goal.returns-clause-lists
returns-clause-lists c q =
    let empty = rw (← c.self.view_is, ← c.storage.view_is) at c.requires in
    rw (← c.self.view_is)
    (drop_head-list c.self.inside.slots c.self.inside.ids c.self.inside.heads.entries c.swap_remove.new.self.entries c.self.inside.delimiter c.storage.inside.0 c.self.invariant.arena empty c.swap_remove.ensures.updates.0 q)

pub returns-clause-heads : goal.returns-clause-heads
returns-clause-heads c q differs head =
    let empty = rw (← c.self.view_is, ← c.storage.view_is) at c.requires in
    let other = rw (← c.storage.view_is) at differs in
    let some = rw (← c.self.view_is) at head in
    drop_head-head c.self.inside.slots c.self.inside.ids c.self.inside.heads.entries c.swap_remove.new.self.entries c.self.inside.delimiter c.storage.inside.0 c.self.invariant.arena empty c.swap_remove.ensures.updates.0 q other some

pub returns-clause-gone : goal.returns-clause-gone
returns-clause-gone c head =
    let empty = rw (← c.self.view_is, ← c.storage.view_is) at c.requires in
    let some = rw (← c.storage.view_is) at head in
    drop_head-gone c.self.inside.slots c.self.inside.ids c.self.inside.heads.entries c.swap_remove.new.self.entries c.self.inside.delimiter c.storage.inside.0 c.self.invariant.arena empty c.swap_remove.ensures.updates.0 some

pub returns-clause-fewer : goal.returns-clause-fewer
returns-clause-fewer c q head =
    let empty = rw (← c.self.view_is, ← c.storage.view_is) at c.requires in
    rw (← c.self.view_is)
    (drop_head-fewer c.self.inside.slots c.self.inside.ids c.self.inside.heads.entries c.swap_remove.new.self.entries c.self.inside.delimiter c.storage.inside.0 c.self.invariant.arena empty c.swap_remove.ensures.updates.0 q head)
