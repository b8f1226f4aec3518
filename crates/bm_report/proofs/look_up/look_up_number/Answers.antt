use Rattle.std.proofs.Common.{◌++◌, ◌∷◌, [], List, refl, subst, sym, ap, ◌∙◌}
use Rattle.bm_report.specs.declared.types.ReportedSlot.{ReportedSlot}
use Rattle.bm_arena.specs.Contents.{slot_of}
use Rattle.bm_report.specs.DuringReport.{AreAtSlots, HaveCapacity}
use Rattle.bm_report.proofs.Aborts.{naming-none, naming-push}
use Rattle.bm_report.proofs.Preparation.{here-prepared, here-push, capacity-prepared, capacity-push, prepared-none, prepared-chain}
use Rattle.bm_report.proofs.KnownNumbers.{slot_there, still_there}
use Rattle.bm_report.proofs.look_up.look_up_number.Goals as goal

pub returns-clause-here : goal.returns-clause-here
returns-clause-here c =
    let P : List ReportedSlot → Type 0 = λ l. AreAtSlots c.reserve_replica.new.arena l in
    let one : ReportedSlot = record { id = c.args.id; slot = c.in_ok-slot.slot; stamp = c.args.stamp } in
    let kept = prepared-chain c.args.arena.now c.slot_for.new.arena c.reserve_replica.new.arena c.slot_for.ensures.kept c.reserve_replica.ensures.kept in
    subst P (sym (c.push_reserved.ensures.items ∙ ap (λ l. l ++ one ∷ []) c.reserve.ensures.items))
    (here-push c.reserve_replica.new.arena c.args.named.now.items one
    (here-prepared c.args.arena.now c.reserve_replica.new.arena c.args.named.now.items kept c.requires.here)
    (c.reserve_replica.ensures.kept.slots c.args.id c.in_ok-slot.slot c.in_ok-slot.ensures.here))

pub returns-clause-capacity : goal.returns-clause-capacity
returns-clause-capacity c =
    let P : List ReportedSlot → Type 0 = λ l. HaveCapacity c.reserve_replica.new.arena c.args.storage l in
    let one : ReportedSlot = record { id = c.args.id; slot = c.in_ok-slot.slot; stamp = c.args.stamp } in
    let kept = prepared-chain c.args.arena.now c.slot_for.new.arena c.reserve_replica.new.arena c.slot_for.ensures.kept c.reserve_replica.ensures.kept in
    subst P (sym (c.push_reserved.ensures.items ∙ ap (λ l. l ++ one ∷ []) c.reserve.ensures.items))
    (capacity-push c.reserve_replica.new.arena c.args.storage c.args.named.now.items one
    (capacity-prepared c.args.storage c.args.arena.now c.reserve_replica.new.arena c.args.named.now.items c.show_invariant.ensures kept c.requires.here c.requires.capacity)
    c.in_ok-reserve_replica.ensures.capacity)

pub returns-in_err-reserve_replica-clause-there : goal.returns-in_err-reserve_replica-clause-there
returns-in_err-reserve_replica-clause-there c h =
    still_there c.args.arena.now c.slot_for.new.arena c.reserve_replica.new.arena c.args.storage c.args.id c.in_ok-slot.slot h (c.slot_for.ensures.known (slot_there c.args.arena.now c.args.storage c.args.id h)).1 c.in_ok-slot.ensures.here c.reserve_replica.ensures.there

pub returns-clause-there : goal.returns-clause-there
returns-clause-there c h =
    still_there c.args.arena.now c.slot_for.new.arena c.reserve_replica.new.arena c.args.storage c.args.id c.in_ok-slot.slot h (c.slot_for.ensures.known (slot_there c.args.arena.now c.args.storage c.args.id h)).1 c.in_ok-slot.ensures.here c.reserve_replica.ensures.there

pub returns-in_err-reserve-clause-kept : goal.returns-in_err-reserve-clause-kept
returns-in_err-reserve-clause-kept c = prepared-none c.args.arena.now

pub returns-in_err-reserve_replica-clause-kept : goal.returns-in_err-reserve_replica-clause-kept
returns-in_err-reserve_replica-clause-kept c = prepared-chain c.args.arena.now c.slot_for.new.arena c.reserve_replica.new.arena c.slot_for.ensures.kept c.reserve_replica.ensures.kept

pub returns-clause-kept : goal.returns-clause-kept
returns-clause-kept c = prepared-chain c.args.arena.now c.slot_for.new.arena c.reserve_replica.new.arena c.slot_for.ensures.kept c.reserve_replica.ensures.kept

pub returns-in_err-reserve_replica-clause-fresh : goal.returns-in_err-reserve_replica-clause-fresh
returns-in_err-reserve_replica-clause-fresh c =
    naming-push c.args.arena.now c.reserve_replica.new.arena c.args.named.now.items c.push_reserved.new.self.items (record { id = c.args.id; slot = c.in_ok-slot.slot; stamp = c.args.stamp })
    (λ b differs. c.reserve_replica.ensures.numbers b ∙ c.slot_for.ensures.others b differs)
    (c.push_reserved.ensures.items ∙ ap (λ l. l ++ record { id = c.args.id; slot = c.in_ok-slot.slot; stamp = c.args.stamp } ∷ []) c.reserve.ensures.items)

pub returns-clause-fresh : goal.returns-clause-fresh
returns-clause-fresh c =
    naming-push c.args.arena.now c.reserve_replica.new.arena c.args.named.now.items c.push_reserved.new.self.items (record { id = c.args.id; slot = c.in_ok-slot.slot; stamp = c.args.stamp })
    (λ b differs. c.reserve_replica.ensures.numbers b ∙ c.slot_for.ensures.others b differs)
    (c.push_reserved.ensures.items ∙ ap (λ l. l ++ record { id = c.args.id; slot = c.in_ok-slot.slot; stamp = c.args.stamp } ∷ []) c.reserve.ensures.items)

pub returns-in_err-slot-clause-fresh : goal.returns-in_err-slot-clause-fresh
returns-in_err-slot-clause-fresh c = naming-none c.args.arena.now c.slot_for.new.arena c.args.named.now.items c.reserve.new.self.items (λ b. ap (λ a. slot_of a b) c.in_err-slot.ensures.unchanged) c.reserve.ensures.items

pub returns-in_err-reserve-clause-fresh : goal.returns-in_err-reserve-clause-fresh
returns-in_err-reserve-clause-fresh c = naming-none c.args.arena.now c.args.arena.now c.args.named.now.items c.reserve.new.self.items (λ b. refl) c.reserve.ensures.items
