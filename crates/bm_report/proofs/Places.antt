-- Numbers that were looked up have entries, and a storage's list is no longer than the slot bound.
use Rattle.std.proofs.Common.{◌≡◌, ℕ, ◌<◌, ◌≤◌, Bool, true, false, ◌||◌, List, [], ◌∷◌, length, map, Option, Some, None, IsSome, refl, subst, sym, ap, ◌∙◌, eqb-true}
use Rattle.std.specs.Prelude.{◌==◌, IsTrue, IsSomeAnd}
use Rattle.std.specs.Option.{option_and_then}
use Rattle.std.proofs.lemmas.Bool.{false≢true}
use Rattle.bm_maps.proofs.SlotLists.{length-distinct_below}
use Rattle.bm_arena.specs.Triplets.{Block}
use Rattle.bm_arena.specs.Contents.{Contents, block_at, marks_at, slot_of, find_marks, list_of, HasCapacity, IsLawful}
use Rattle.bm_base.specs.Machine.Events.{is_named}
use Rattle.bm_report.specs.declared.types.ReportedSlot.{ReportedSlot}
use Rattle.bm_report.specs.DuringReport.{AreAtSlots, HaveCapacity, reported_of}
use Rattle.bm_report.specs.Ready.{HasSlotFor}

held_below : (a : Contents) (s x : ℕ) → IsLawful a → IsSome (marks_at a x s) → x < a.bound
held_below a s x lawful some = by (block_at a x) refl some
  where
    by : (o : Option Block) → block_at a x ≡ o → IsSome (option_and_then (λ (b : Block). find_marks b.replicas s) o) → x < a.bound
    by None e some = absurd (false≢true some)
    by (Some b) e some = lawful.bounded x b e

-- a storage's list is no longer than the bound of the slots
pub list_within : (a : Contents) (s : ℕ) → IsLawful a → length (list_of a s) ≤ a.bound
list_within a s lawful = length-distinct_below a.bound (list_of a s) (lawful.distinct s) (λ x among. held_below a s x lawful ((lawful.exact x s).0 among))

-- each number that was looked up has its entry
pub slots_of : (a : Contents) (s : ℕ) (ns : List ReportedSlot) → AreAtSlots a ns → HaveCapacity a s ns → (b : ℕ) → IsTrue (is_named (map reported_of ns) b) → HasSlotFor a s b
unfolding is_named
slots_of a s [] here capacity b named = absurd (false≢true named)
slots_of a s (n ∷ ns) here capacity b named = by (n.id == b) refl named (slots_of a s ns here.1 capacity.1 b)
  where
    by : (t : Bool) → (n.id == b) ≡ t → IsTrue (t || is_named (map reported_of ns) b) → (IsTrue (is_named (map reported_of ns) b) → HasSlotFor a s b) → HasSlotFor a s b
    by true same named later =
        let P : Option ℕ → Type 0 = λ o. IsSomeAnd o (λ slot. marks_at a slot s ≡ None → HasCapacity a slot) in
        subst P (sym here.0 ∙ ap (slot_of a) (eqb-true n.id b same)) capacity.0
    by false differs named later = later named
