-- Each change of entries keeps all held slots below the bound, which only an insert may raise.
use Rattle.std.proofs.Common.{◌≡◌, ℕ, ◌<◌, ◌+◌, max, get_or, set, [], Option, Some, None, IsSome, refl, subst, inl, inr, sym, ap, ◌∙◌, arith}
use Rattle.std.specs.Option.{option_map}
use Rattle.std.proofs.lemmas.Bool.{cases_eq, false≢true}
use Rattle.std.proofs.lemmas.Option.{none-some}
use Rattle.std.proofs.lemmas.List.{get_or-set_other}
use Rattle.slab.specs.Slab.{Slab, get, Updates}
use Rattle.bm_arena.specs.declared.arena.BlockEntry.{BlockEntry}
use Rattle.bm_arena.specs.declared.arena.Triplet.{Triplet}
use Rattle.bm_arena.specs.Triplets.{Block, slot_views, at_slot, change_at, as_first, added, removed, detached, previous_set, next_set}
use Rattle.bm_arena.specs.Inside.{AllBelow}
use Rattle.bm_arena.proofs.Triplets.{get_or-set_here}
use Rattle.bm_arena.proofs.EntryViews.{some_inside, entry_seen}

pub below-at_slot : (g : BlockEntry → BlockEntry) (slots : Slab BlockEntry) (x bound : ℕ) → AllBelow slots bound → AllBelow (at_slot g slots x) bound
below-at_slot g slots x bound below y e is =
    elim (cases_eq y x) [
      | inl same ↦
          let now : option_map g (get slots x) ≡ Some e = sym (get_or-set_here slots.slots x (option_map g) refl) ∙ (rw same at is) in
          let before = some_inside g (get slots x) e now in
          rw same (below x before.0 before.1)
      | inr differs ↦ below y e (sym (get_or-set_other slots.slots x y _ None differs) ∙ is)
    ]

below-previous_set : (slots : Slab BlockEntry) (at : Option ℕ) (s : ℕ) (previous : Option ℕ) (bound : ℕ) → AllBelow slots bound → AllBelow (previous_set slots at s previous) bound
below-previous_set slots None s previous bound below = below
below-previous_set slots (Some y) s previous bound below = below-at_slot _ slots y bound below

below-next_set : (slots : Slab BlockEntry) (at : Option ℕ) (s : ℕ) (next : Option ℕ) (bound : ℕ) → AllBelow slots bound → AllBelow (next_set slots at s next) bound
below-next_set slots None s next bound below = below
below-next_set slots (Some y) s next bound below = below-at_slot _ slots y bound below

below-detached : (slots : Slab BlockEntry) (t : Triplet) (s bound : ℕ) → AllBelow slots bound → AllBelow (detached slots t s) bound
below-detached slots t s bound below =
    below-previous_set (next_set slots t.previous s t.next) t.next s t.previous bound (below-next_set slots t.previous s t.next bound below)

pub below-changed : (g : BlockEntry → BlockEntry) (slots new : Slab BlockEntry) (x bound : ℕ) → new ≡ at_slot g slots x → AllBelow slots bound → AllBelow new bound
below-changed g slots new x bound is below = rw is (below-at_slot g slots x bound below)

pub below-linked : (slots mid new : Slab BlockEntry) (first : Option ℕ) (x s : ℕ) (t : Triplet) (bound : ℕ) → mid ≡ added slots x t → new ≡ previous_set mid first s (Some x) → AllBelow slots bound → AllBelow new bound
below-linked slots mid new first x s t bound mid_is new_is below =
    rw (new_is, mid_is) (below-previous_set (added slots x t) first s (Some x) bound (below-at_slot _ slots x bound below))

pub below-unlinked : (slots mid new : Slab BlockEntry) (x s : ℕ) (t : Triplet) (bound : ℕ) → mid ≡ removed slots x s → new ≡ detached mid t s → AllBelow slots bound → AllBelow new bound
below-unlinked slots mid new x s t bound mid_is new_is below =
    rw (new_is, mid_is) (below-detached (removed slots x s) t s bound (below-at_slot _ slots x bound below))

pub below-moved : (slots front mid new : Slab BlockEntry) (first middle : Option ℕ) (x s : ℕ) (t : Triplet) (bound : ℕ) → front ≡ change_at (as_first first) slots x s → mid ≡ detached front t s → new ≡ previous_set mid middle s (Some x) → AllBelow slots bound → AllBelow new bound
below-moved slots front mid new first middle x s t bound front_is mid_is new_is below =
    rw (new_is, mid_is, front_is)
    (below-previous_set (detached (change_at (as_first first) slots x s) t s) middle s (Some x) bound
    (below-detached (change_at (as_first first) slots x s) t s bound (below-at_slot _ slots x bound below)))

pub below-dropped : (slots new : Slab BlockEntry) (x bound : ℕ) → new.slots ≡ set slots.slots x None → AllBelow slots bound → AllBelow new bound
below-dropped slots new x bound new_is below y e is =
    let now : get_or (set slots.slots x None) y None ≡ Some e = rw new_is at is in
    elim (cases_eq y x) [
      | inl same ↦ absurd (none-some e (sym (get_or-set_here slots.slots x (λ _. None) refl) ∙ (rw same at now)))
      | inr differs ↦ below y e (sym (get_or-set_other slots.slots x y None None differs) ∙ now)
    ]

pub below-inserted : (slots new : Slab BlockEntry) (key bound above : ℕ) (e : BlockEntry) → Updates slots new key (Some e) → above ≡ max bound (key + 1) → AllBelow slots bound → AllBelow new above
below-inserted slots new key bound above e up above_is below y f is =
    elim (cases_eq y key) [
      | inl same ↦ omega (arith, same, above_is)
      | inr differs ↦ let before : y < bound = below y f (sym (up.others y differs) ∙ is) in omega (arith, before, above_is)
    ]

-- a slab that only got more capacity
pub below-capacity : (slots new : Slab BlockEntry) (capacity bound : ℕ) → new ≡ record slots { capacity = capacity } → AllBelow slots bound → AllBelow new bound
below-capacity slots new capacity bound is below = rw is below

pub below-empty : (slots : Slab BlockEntry) → slots.slots ≡ [] → AllBelow slots 0
below-empty slots empty y e is = absurd (none-some e (sym (ap (λ l. get_or l y None) empty) ∙ is))

-- each slot at which a block is seen is below the bound
pub below-seen : (slots : Slab BlockEntry) (bound : ℕ) → AllBelow slots bound → (slot : ℕ) → IsSome (get_or (slot_views slots) slot None) → slot < bound
below-seen slots bound below slot held = by (get_or (slot_views slots) slot None) refl
  where
    by : (o : Option Block) → get_or (slot_views slots) slot None ≡ o → slot < bound
    by None is = let P : Option Block → Type 0 = λ o. IsSome o in absurd (false≢true (subst P is held))
    by (Some b) is = let e = entry_seen slots slot b is in below slot e.0 e.1
