use Rattle.std.proofs.Common.{◌≡◌, None, sym, ap, ◌∙◌, ◌+◌, max, refl}
use Rattle.bm_arena.proofs.Lawfulness.{IsLawful-arena}
use Rattle.bm_arena.proofs.Entries.{IsArena-capacity, add_entry-arena, add_entry-added}
use Rattle.bm_arena.proofs.Bounds.{below-inserted, below-capacity}
use Rattle.bm_arena.specs.Contents.{slot_of, IsLawful}
use Rattle.bm_arena.proofs.SetInfo.{added-replicas, added-blocks}
use Rattle.bm_arena.proofs.arena.Arena.add_entry.Goals as goal

pub invariant_of-self : goal.invariant_of-self
invariant_of-self c =
    rw c.in_err-slot.ensures.unchanged
    (record {
      arena = IsArena-capacity c.self.inside.slots c.slot_for.new.slots _ c.self.inside.ids c.self.inside.heads.entries c.self.inside.delimiter c.slot_for.ensures.grown c.self.invariant.arena;
      bounded = below-capacity c.self.inside.slots c.slot_for.new.slots _ c.self.inside.bound c.slot_for.ensures.grown c.self.invariant.bounded;
    })

pub returns-in_err-slot-clause-lawful : goal.returns-in_err-slot-clause-lawful
returns-in_err-slot-clause-lawful c = IsLawful-arena c.slot_for.new.slots _ _ _ _ (invariant_of-self c) _

pub invariant_of-self-then-is_new : goal.invariant_of-self-then-is_new
invariant_of-self-then-is_new c =
    let listed = c.in_ok-slot.ensures.listed c.if-is_new.true in
    let absent = c.in_ok-slot.ensures.absent c.if-is_new.true in
    record {
      arena =
          add_entry-arena c.self.inside.slots c.slot_for.new.slots c.insert_reserved-self-inside.new.self _ c.insert_reserved-self-inside.result c.in_ok-slot.slot _ c.self.inside.ids c.slot_for.new.self c.self.inside.heads.entries c.self.inside.delimiter
          c.slot_for.ensures.grown c.insert_reserved-self-inside.ensures.key listed.0 c.insert_reserved-self-inside.ensures.was_vacant c.insert_reserved-self-inside.ensures.updates c.new.ensures.items
          absent listed.3 c.slot_for.ensures.unique listed.1 c.self.invariant.arena;
      bounded = below-inserted c.slot_for.new.slots c.insert_reserved-self-inside.new.self c.insert_reserved-self-inside.result c.self.inside.bound c.max-self-inside.result _ c.insert_reserved-self-inside.ensures.updates (c.max-self-inside.ensures ∙ ap (λ k. max c.self.inside.bound (k + 1)) (listed.0 ∙ sym c.insert_reserved-self-inside.ensures.key)) (below-capacity c.self.inside.slots c.slot_for.new.slots _ c.self.inside.bound c.slot_for.ensures.grown c.self.invariant.bounded);
    }

pub returns-then-is_new-clause-added : goal.returns-then-is_new-clause-added
returns-then-is_new-clause-added c none =
    let listed = c.in_ok-slot.ensures.listed c.if-is_new.true in
    let absent = c.in_ok-slot.ensures.absent c.if-is_new.true in
    rw (← c.self.view_is, ← c.id.view_is)
    (add_entry-added c.self.inside.slots c.slot_for.new.slots c.insert_reserved-self-inside.new.self _ c.insert_reserved-self-inside.result c.in_ok-slot.slot _ c.self.inside.ids c.slot_for.new.self c.self.inside.heads.entries c.self.inside.delimiter
    c.slot_for.ensures.grown c.insert_reserved-self-inside.ensures.key listed.0 c.insert_reserved-self-inside.ensures.was_vacant c.insert_reserved-self-inside.ensures.updates c.new.ensures.items
    absent listed.3 c.slot_for.ensures.unique listed.1 c.self.invariant.arena
    c.self.inside.steps c.self.inside.bound c.max-self-inside.result c.max-self-inside.ensures refl c.new.ensures.capacity)

pub returns-then-is_new-clause-lawful : goal.returns-then-is_new-clause-lawful
returns-then-is_new-clause-lawful c = IsLawful-arena c.insert_reserved-self-inside.new.self _ _ _ _ (invariant_of-self-then-is_new c) _

pub returns-else-is_new-clause-lawful : goal.returns-else-is_new-clause-lawful
returns-else-is_new-clause-lawful c =
    let known = c.in_ok-slot.ensures.known c.if-is_new.false in
    rw (known.1, known.2) (IsLawful-arena c.self.inside.slots _ _ _ _ c.self.invariant _)

pub returns-then-is_new-clause-replicas : goal.returns-then-is_new-clause-replicas
returns-then-is_new-clause-replicas c =
    let absent = c.in_ok-slot.ensures.absent c.if-is_new.true in
    let none : slot_of c.args.self.now c.args.id ≡ None = rw (← c.self.view_is, ← c.id.view_is) (sym absent) in
    let lawful : IsLawful c.args.self.now = rw (← c.self.view_is) (IsLawful-arena c.self.inside.slots _ _ _ _ c.self.invariant _) in
    added-replicas c.args.self.now _ c.args.id c.in_ok-slot.slot lawful none (returns-then-is_new-clause-added c none)

pub returns-then-is_new-clause-blocks : goal.returns-then-is_new-clause-blocks
returns-then-is_new-clause-blocks c =
    let absent = c.in_ok-slot.ensures.absent c.if-is_new.true in
    let none : slot_of c.args.self.now c.args.id ≡ None = rw (← c.self.view_is, ← c.id.view_is) (sym absent) in
    let lawful : IsLawful c.args.self.now = rw (← c.self.view_is) (IsLawful-arena c.self.inside.slots _ _ _ _ c.self.invariant _) in
    added-blocks c.args.self.now _ c.args.id c.in_ok-slot.slot lawful none (returns-then-is_new-clause-added c none)
