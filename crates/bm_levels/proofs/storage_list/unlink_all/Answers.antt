use Rattle.std.proofs.Common.{◌≡◌, ◌≤◌, ◌<◌, ◌+◌, ℕ, refl, List, ◌∷◌, ◌++◌, length, get_or, drop, drop-cons, drop_of_length-le, add-one, arith, ap, subst, ◌∙◌}
use Rattle.std.specs.Prelude.{◌==◌}
use Rattle.bm_levels.specs.LeavingReplicas.{IsLeaving}
use Rattle.bm_levels.proofs.StatusUpdates.{among_next}
use Rattle.bm_levels.proofs.UnlinkedReplicas.{AreUnlinked, unlinked_none, next_there, unlinked_more}
use Rattle.bm_levels.proofs.storage_list.unlink_all.Goals as goal

-- the rest of a list is its next slot and those after it
next_is : (xs : List ℕ) (i : ℕ) → i < length xs → drop i xs ≡ get_or xs i 0 ∷ drop (i + 1) xs
next_is xs i less = rw (add-one, drop-cons xs i 0) refl

pub loop-slot-init : goal.loop-slot-init
loop-slot-init c = unlinked_none c.args.storage c.args.slots.now c.args.arena.now c.requires.free c.show_invariant.ensures

pub unlink-requires : goal.unlink-requires
unlink-requires c =
    let xs = c.args.slots.now in
    let i = c.loop-slot.slot-index in
    let less : i < length xs = omega arith in
    let P : List ℕ → Type 0 = λ l. AreUnlinked c.args.storage xs l c.args.arena.now c.loop-slot.arena i in
    next_there c.args.storage xs (drop (i + 1) xs) c.requires.first.0 c.args.arena.now c.loop-slot.arena i (get_or xs i 0) (subst P (next_is xs i less) c.loop-slot.invariant) c.requires.first.1

pub loop-slot-preserved : goal.loop-slot-preserved
loop-slot-preserved c =
    let xs = c.args.slots.now in
    let i = c.loop-slot.slot-index in
    let less : i < length xs = omega arith in
    let next = next_is xs i less in
    let P : List ℕ → Type 0 = λ l. AreUnlinked c.args.storage xs l c.args.arena.now c.loop-slot.arena i in
    let u = c.unlink.ensures in
    unlinked_more c.args.storage xs (drop (i + 1) xs) c.requires.first.0 c.args.arena.now c.loop-slot.arena i (get_or xs i 0) (subst P next c.loop-slot.invariant) c.requires.first.1
    c.unlink.new.self (among_next xs (drop (i + 1) xs) i (get_or xs i 0) next) u.after u.list u.others u.replicas u.known u.lawful

pub returns-clause-left : goal.returns-clause-left
returns-clause-left c =
    let end : c.loop-slot.slot-index ≡ length c.args.slots.now = omega arith in
    let P : ℕ → Type 0 = λ n. IsLeaving (λ s. s == c.args.storage) c.args.arena.now c.loop-slot.arena n in
    subst P end c.loop-slot.invariant.leaving

pub returns-clause-list : goal.returns-clause-list
returns-clause-list c rest e =
    let past : length c.args.slots.now ≤ c.loop-slot.slot-index = omega (arith, c.loop-slot-test.false) in
    c.loop-slot.invariant.list rest e ∙ ap (λ l. l ++ rest) (drop_of_length-le _ past)
