use Rattle.std.proofs.Common.{◌↔◌, ℕ, List, arith, sym, subst, take, take_all, slice_index_or}
use Rattle.std.proofs.lemmas.List.{take_more}
use Rattle.bm_maps.specs.SlotLists.{IsMember}
use Rattle.callers.proofs.Members.{one_more}
use Rattle.callers.proofs.slots.note_slots.Goals as goal

pub loop-slot-preserved : goal.loop-slot-preserved
loop-slot-preserved c =
    let i = c.loop-slot.slot-index in
    let xs = c.args.slots.now in
    let P : List ℕ → Type 0 = λ ys. (slot : ℕ) → IsMember slot c.insert.new.self.slots ↔ IsMember slot ys in (
      omega (arith, c.loop-slot.invariant.0, c.insert.ensures.capacity),
      subst P (sym (take_more xs i 0 c.loop-slot-test.true))
          (one_more (slice_index_or xs i 0) (take i xs) c.loop-slot.set.slots c.insert.new.self.slots c.loop-slot.invariant.1 c.insert.ensures.held c.insert.ensures.others),
    )

pub returns-clause-members : goal.returns-clause-members
returns-clause-members c =
    let P : List ℕ → Type 0 = λ ys. (slot : ℕ) → IsMember slot c.loop-slot.set.slots ↔ IsMember slot ys in
    subst P (take_all c.loop-slot.slot-index c.args.slots.now (omega (arith, c.loop-slot-test.false))) c.loop-slot.invariant.1
