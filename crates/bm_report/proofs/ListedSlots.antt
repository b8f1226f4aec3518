-- A pushed slot is the only new one in a list; a named entry's slot is that of a reported number.
use Rattle.std.proofs.Common.{◌≡◌, ◌⊎◌, ℕ, zero, suc, List, [], ◌∷◌, ◌++◌, map, Some, inl, inr, subst, sym, ap, ◌∙◌}
use Rattle.std.specs.Prelude.{slice_get}
use Rattle.std.proofs.lemmas.Option.{none-some, same_Some}
use Rattle.bm_maps.specs.SlotLists.{IsMember}
use Rattle.bm_arena.specs.Contents.{Contents}
use Rattle.bm_arena.proofs.Replicas.{IsMember-append}
use Rattle.bm_report.specs.declared.types.ReportedSlot.{ReportedSlot}
use Rattle.bm_report.specs.DuringReport.{AreAtSlots, slot_in, reported_of}
use Rattle.bm_report.specs.Ready.{IsReportedAt}
use Rattle.bm_report.proofs.ByNumber.{first_named, then_named}

-- each listed slot was listed before, or is that of one of these numbers
abbrev pub AddsOnlyReported : List ReportedSlot → List ℕ → List ℕ → Type 0
AddsOnlyReported ns before after = (slot : ℕ) → IsMember slot after → IsMember slot before ⊎ IsMember slot (map slot_in ns)

pub slot-listed : (ns : List ReportedSlot) (i : ℕ) (n : ReportedSlot) → slice_get ns i ≡ Some n → IsMember n.slot (map slot_in ns)
slot-listed [] i n e = absurd (none-some n e)
slot-listed (m ∷ ns) zero n e = inl (ap slot_in (sym (same_Some m n e)))
slot-listed (m ∷ ns) (suc i) n e = inr (slot-listed ns i n e)

pub slots-front : (ns ms : List ReportedSlot) (slot : ℕ) → IsMember slot (map slot_in ns) → IsMember slot (map slot_in (ns ++ ms))
slots-front [] ms slot h = absurd h
slots-front (n ∷ ns) ms slot (inl same) = inl same
slots-front (n ∷ ns) ms slot (inr later) = inr (slots-front ns ms slot later)

pub slots-back : (ns ms : List ReportedSlot) (slot : ℕ) → IsMember slot (map slot_in ms) → IsMember slot (map slot_in (ns ++ ms))
slots-back [] ms slot h = h
slots-back (n ∷ ns) ms slot h = inr (slots-back ns ms slot h)

-- one slot is pushed
pub came-push : (slot : ℕ) (xs ys : List ℕ) → ys ≡ xs ++ slot ∷ [] → (x : ℕ) → IsMember x ys → IsMember x xs ⊎ (x ≡ slot)
came-push slot xs ys is x m =
    let P : List ℕ → Type 0 = λ l. IsMember x l in
    elim (IsMember-append x xs (slot ∷ []) (subst P is m)) [ inl was ↦ inl was | inr (inl same) ↦ inr same | inr (inr none) ↦ absurd none ]

-- the slot of a named number is that of a reported number
pub slot-reported : (a : Contents) (ns : List ReportedSlot) (slot : ℕ) → AreAtSlots a ns → IsMember slot (map slot_in ns) → IsReportedAt a (map reported_of ns) slot
slot-reported a [] slot here m = absurd m
slot-reported a (n ∷ ns) slot here (inl same) = (n.id, first_named (reported_of n) (map reported_of ns), here.0 ∙ ap (λ k. Some k) (sym same))
slot-reported a (n ∷ ns) slot here (inr later) =
    let led = slot-reported a ns slot here.1 later in
    (led.0, then_named (reported_of n) (map reported_of ns) led.0 led.1, led.2)
