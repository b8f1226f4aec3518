use Rattle.bm_arena.proofs.Lawfulness.{IsLawful-arena}
use Rattle.bm_arena.proofs.DroppedEntry.{drop_entry-arena, drop_entry-view, drop_entry-none, drop_entry-entries, drop_entry-numbers, drop_entry-lists}
use Rattle.bm_arena.proofs.Bounds.{below-dropped}
use Rattle.bm_arena.proofs.arena.Arena.drop_entry.Goals as goal

pub invariant_of-self : goal.invariant_of-self
invariant_of-self c =
    let no_replicas = rw (← c.self.view_is) at c.requires.no_replicas in
    let apart = rw (← c.self.view_is) at c.requires.entry in
    record {
      arena =
          drop_entry-arena c.self.inside.slots c.remove_entry.new.slots c.args.slot c.in-Some.id c.in-Some.ensures.id c.in-Some.ensures.slots no_replicas
          c.self.inside.ids c.remove.new.self c.self.inside.heads.entries c.self.inside.delimiter c.self.invariant.arena apart c.remove.ensures.found c.remove.ensures.unique;
      bounded = below-dropped c.self.inside.slots c.remove_entry.new.slots c.args.slot c.self.inside.bound c.in-Some.ensures.slots c.self.invariant.bounded;
    }

pub invariant_of-self-in_default : goal.invariant_of-self-in_default
invariant_of-self-in_default c =
    let no_replicas = rw (← c.self.view_is) at c.requires.no_replicas in
    absurd (drop_entry-none c.self.inside.slots c.args.slot c.in_default.ensures.id no_replicas)

pub returns-in-Some-clause-after : goal.returns-in-Some-clause-after
returns-in-Some-clause-after c b seen =
    let no_replicas = rw (← c.self.view_is) at c.requires.no_replicas in
    let apart = rw (← c.self.view_is) at c.requires.entry in
    let at = rw (← c.self.view_is) at seen in
    rw (← c.self.view_is)
    (drop_entry-view c.self.inside.slots c.remove_entry.new.slots c.args.slot c.in-Some.id c.in-Some.ensures.id c.in-Some.ensures.slots no_replicas
    c.self.inside.ids c.remove.new.self c.self.inside.heads.entries c.self.inside.delimiter c.self.invariant.arena apart c.remove.ensures.found
    c.self.inside.steps c.self.inside.bound c.remove.ensures.list b at)

pub returns-in-Some-clause-lawful : goal.returns-in-Some-clause-lawful
returns-in-Some-clause-lawful c = IsLawful-arena _ _ _ _ _ (invariant_of-self c) _

pub returns-in_default-clause-lawful : goal.returns-in_default-clause-lawful
returns-in_default-clause-lawful c =
    let no_replicas = rw (← c.self.view_is) at c.requires.no_replicas in
    absurd (drop_entry-none c.self.inside.slots c.args.slot c.in_default.ensures.id no_replicas)

pub returns-in-Some-clause-entries : goal.returns-in-Some-clause-entries
returns-in-Some-clause-entries c y =
    let no_replicas = rw (← c.self.view_is) at c.requires.no_replicas in
    let apart = rw (← c.self.view_is) at c.requires.entry in
    rw (← c.self.view_is)
    (drop_entry-entries c.self.inside.slots c.remove_entry.new.slots c.args.slot c.in-Some.id c.in-Some.ensures.id c.in-Some.ensures.slots no_replicas
    c.self.inside.ids c.remove.new.self c.self.inside.heads.entries c.self.inside.delimiter c.self.invariant.arena apart c.remove.ensures.found y)

pub returns-in-Some-clause-numbers : goal.returns-in-Some-clause-numbers
returns-in-Some-clause-numbers c b seen q =
    let no_replicas = rw (← c.self.view_is) at c.requires.no_replicas in
    let apart = rw (← c.self.view_is) at c.requires.entry in
    let at = rw (← c.self.view_is) at seen in
    rw (← c.self.view_is)
    (drop_entry-numbers c.self.inside.slots c.remove_entry.new.slots c.args.slot c.in-Some.id c.in-Some.ensures.id c.in-Some.ensures.slots no_replicas
    c.self.inside.ids c.remove.new.self c.self.inside.heads.entries c.self.inside.delimiter c.self.invariant.arena apart c.remove.ensures.found b at q)

pub returns-in-Some-clause-lists : goal.returns-in-Some-clause-lists
returns-in-Some-clause-lists c =
    let no_replicas = rw (← c.self.view_is) at c.requires.no_replicas in
    let apart = rw (← c.self.view_is) at c.requires.entry in
    rw (← c.self.view_is)
    (drop_entry-lists c.self.inside.slots c.remove_entry.new.slots c.args.slot c.in-Some.id c.in-Some.ensures.id c.in-Some.ensures.slots no_replicas
    c.self.inside.ids c.remove.new.self c.self.inside.heads.entries c.self.inside.delimiter c.self.invariant.arena apart c.remove.ensures.found)
