use Rattle.std.proofs.Common.{max, subst, sym, ◌∙◌, ℕ, List}
use Rattle.std.specs.Prelude.{nat_eq}
use Rattle.indexmap.proofs.CallerLemmas.{insert_entry-new}
use Rattle.bm_arena.specs.Inside.{AreAtMost}
use Rattle.bm_arena.proofs.GreatestNumber.{up_to-added}
use Rattle.bm_arena.proofs.slot_index.SlotIndex.slot_for.Goals as goal

pub invariant_of-self-then-is_new : goal.invariant_of-self-then-is_new
invariant_of-self-then-is_new c =
    let P : List (ℕ × ℕ) → Type 0 = λ l. AreAtMost l (max c.self.inside.greatest c.args.id) in
    let absent = sym (c.in_ok-slot.ensures.absent c.if-is_new.true) in
    let list = (c.in_ok-slot.ensures.listed c.if-is_new.true).3 ∙ insert_entry-new nat_eq c.self.inside.index c.args.id c.in_ok-slot.slot absent in
    rw c.max-self-inside.ensures
    (subst P (sym list) (up_to-added c.self.inside.index.entries c.self.inside.greatest c.args.id c.in_ok-slot.slot c.self.invariant))

pub returns-then-is_new-clause-listed : goal.returns-then-is_new-clause-listed
returns-then-is_new-clause-listed c is =
    let listed = c.in_ok-slot.ensures.listed is in
    let absent = sym (c.in_ok-slot.ensures.absent is) in (
      listed.0,
      listed.1,
      listed.2,
      rw (← c.self.view_is) (listed.3 ∙ insert_entry-new nat_eq c.self.inside.index c.args.id c.in_ok-slot.slot absent),
    )
