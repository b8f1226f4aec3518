-- After a slot is linked at the head of a storage's list, or unlinked, the links lead through the
-- new list.
use Rattle.std.proofs.Common.{◌≡◌, ◌≢◌, ℕ, List, ◌∷◌, length, cond, Option, Some, None, is_some, refl, subst, inl, inr, sym, ap, ◌∙◌}
use Rattle.std.specs.Option.{option_map}
use Rattle.std.proofs.lemmas.Option.{none-some, same_Some}
use Rattle.slab.specs.Slab.{Slab}
use Rattle.bm_arena.specs.declared.arena.BlockEntry.{BlockEntry}
use Rattle.bm_arena.specs.declared.arena.Triplet.{Triplet}
use Rattle.bm_arena.specs.Triplets.{with_previous, with_next, triplet_at, links_of, slot_views, first_after, previous_set, next_set, detached}
use Rattle.bm_maps.specs.SlotLists.{IsMember, without}
use Rattle.bm_arena.specs.Lists.{Chain, IsList}
use Rattle.bm_arena.proofs.Triplets.{triplet_at-change_same, triplet_at-change_slot, triplet_at-change_storage, seen-change, length-change}
use Rattle.bm_maps.proofs.SlotLists.{Distinct-without}
use Rattle.bm_arena.proofs.Lists.{Chain-front, Chain-without, first-apart}

-- a neighbour's link is written, if there is a neighbour
module _ (slots : Slab BlockEntry) (storage : ℕ) where
  previous_set-same : (y : ℕ) (p : Option ℕ) (at : Option ℕ) → at ≡ Some y → triplet_at (previous_set slots at storage p) y storage ≡ option_map (with_previous p) (triplet_at slots y storage)
  previous_set-same y p None is = absurd (none-some y is)
  previous_set-same y p (Some z) is = rw (same_Some z y is) (triplet_at-change_same (with_previous p) (λ _. refl) slots y storage)

  previous_set-slot : (y other : ℕ) (p : Option ℕ) (at : Option ℕ) → at ≢ Some y → triplet_at (previous_set slots at storage p) y other ≡ triplet_at slots y other
  previous_set-slot y other p None differs = refl
  previous_set-slot y other p (Some z) differs = triplet_at-change_slot (with_previous p) (λ _. refl) slots z y storage other (λ e. differs (ap Some (sym e)))

  previous_set-storage : (y other : ℕ) (p : Option ℕ) (at : Option ℕ) → other ≢ storage → triplet_at (previous_set slots at storage p) y other ≡ triplet_at slots y other
  previous_set-storage y other p None differs = refl
  previous_set-storage y other p (Some z) differs = triplet_at-change_storage (with_previous p) (λ _. refl) slots z y storage other differs

  seen-previous_set : (p at : Option ℕ) → slot_views (previous_set slots at storage p) ≡ slot_views slots
  seen-previous_set p None = refl
  seen-previous_set p (Some z) = seen-change (with_previous p) (λ _. refl) slots z storage

  length-previous_set : (p at : Option ℕ) → length (previous_set slots at storage p).slots ≡ length slots.slots
  length-previous_set p None = refl
  length-previous_set p (Some z) = length-change (with_previous p) (λ _. refl) slots z storage

  next_set-same : (y : ℕ) (p : Option ℕ) (at : Option ℕ) → at ≡ Some y → triplet_at (next_set slots at storage p) y storage ≡ option_map (with_next p) (triplet_at slots y storage)
  next_set-same y p None is = absurd (none-some y is)
  next_set-same y p (Some z) is = rw (same_Some z y is) (triplet_at-change_same (with_next p) (λ _. refl) slots y storage)

  next_set-slot : (y other : ℕ) (p : Option ℕ) (at : Option ℕ) → at ≢ Some y → triplet_at (next_set slots at storage p) y other ≡ triplet_at slots y other
  next_set-slot y other p None differs = refl
  next_set-slot y other p (Some z) differs = triplet_at-change_slot (with_next p) (λ _. refl) slots z y storage other (λ e. differs (ap Some (sym e)))

  next_set-storage : (y other : ℕ) (p : Option ℕ) (at : Option ℕ) → other ≢ storage → triplet_at (next_set slots at storage p) y other ≡ triplet_at slots y other
  next_set-storage y other p None differs = refl
  next_set-storage y other p (Some z) differs = triplet_at-change_storage (with_next p) (λ _. refl) slots z y storage other differs

  seen-next_set : (p at : Option ℕ) → slot_views (next_set slots at storage p) ≡ slot_views slots
  seen-next_set p None = refl
  seen-next_set p (Some z) = seen-change (with_next p) (λ _. refl) slots z storage

  length-next_set : (p at : Option ℕ) → length (next_set slots at storage p).slots ≡ length slots.slots
  length-next_set p None = refl
  length-next_set p (Some z) = length-change (with_next p) (λ _. refl) slots z storage

-- a slot is put at the head: its triplet has no previous link and leads to the old head
module _ (slots : Slab BlockEntry) (first : Option ℕ) (x storage : ℕ) where
  abbrev fronted : Slab BlockEntry
  fronted = previous_set slots first storage (Some x)

  pub front-storage : (y other : ℕ) → other ≢ storage → triplet_at fronted y other ≡ triplet_at slots y other
  front-storage y other differs = previous_set-storage slots storage y other (Some x) first differs

  pub seen-front : slot_views fronted ≡ slot_views slots
  seen-front = seen-previous_set slots storage (Some x) first

  pub length-front : length fronted.slots ≡ length slots.slots
  length-front = length-previous_set slots storage (Some x) first

  -- `links` are those before the slot's own triplet was written
  pub front-list : (links : ℕ → Option Triplet) (t : Triplet) (xs : List ℕ) → triplet_at slots x storage ≡ Some t → t.previous ≡ None → t.next ≡ first → IsList links first xs → (IsMember x xs → ⊥) → ((y : ℕ) → y ≢ x → triplet_at slots y storage ≡ links y) → IsList (links_of fronted storage) (Some x) (x ∷ xs)
  front-list links t xs own prev next list fresh same =
      record {
        chain =
            Chain-front links (links_of fronted storage) first xs x t list.chain list.distinct fresh
            (previous_set-slot slots storage x storage (Some x) first (first-apart links None first xs x list.chain fresh) ∙ own) prev next
            (λ y is differs. previous_set-same slots storage y (Some x) first is ∙ ap (option_map (with_previous (Some x))) (same y differs))
            (λ z differs off. previous_set-slot slots storage z storage (Some x) first off ∙ same z differs);
        distinct = (fresh, list.distinct);
      }

-- a slot is taken out between its neighbours
module _ (slots : Slab BlockEntry) (t : Triplet) (storage : ℕ) where
  abbrev half : Slab BlockEntry
  half = next_set slots t.previous storage t.next

  pub detached-storage : (y other : ℕ) → other ≢ storage → triplet_at (detached slots t storage) y other ≡ triplet_at slots y other
  detached-storage y other differs =
      previous_set-storage half storage y other t.previous t.next differs ∙ next_set-storage slots storage y other t.next t.previous differs

  pub seen-detached : slot_views (detached slots t storage) ≡ slot_views slots
  seen-detached = seen-previous_set half storage t.previous t.next ∙ seen-next_set slots storage t.next t.previous

  pub length-detached : length (detached slots t storage).slots ≡ length slots.slots
  length-detached = length-previous_set half storage t.previous t.next ∙ length-next_set slots storage t.next t.previous

  -- a slot that is no neighbour of itself keeps its triplet
  pub detached-own : (x : ℕ) → t.previous ≢ Some x → t.next ≢ Some x → triplet_at (detached slots t storage) x storage ≡ triplet_at slots x storage
  detached-own x off_previous off_next = previous_set-slot half storage x storage t.previous t.next off_next ∙ next_set-slot slots storage x storage t.next t.previous off_previous

  -- `links` are those before the slot's own triplet was written or removed
  pub detached-list : (links : ℕ → Option Triplet) (first : Option ℕ) (x : ℕ) (xs : List ℕ) → links x ≡ Some t → ((y : ℕ) → y ≢ x → triplet_at slots y storage ≡ links y) → IsList links first xs → IsMember x xs → IsList (links_of (detached slots t storage) storage) (first_after first t) (without x xs)
  detached-list links first x xs own same list there =
      record {
        chain =
            elim (Chain-without links (links_of (detached slots t storage) storage) x t own
            (λ y differs is off. previous_set-slot half storage y storage t.previous t.next off ∙ next_set-same slots storage y t.next t.previous is ∙ ap (option_map (with_next t.next)) (same y differs))
            (λ y differs is off. previous_set-same half storage y t.previous t.next is ∙ ap (option_map (with_previous t.previous)) (next_set-slot slots storage y storage t.next t.previous off ∙ same y differs))
            (λ z differs off_previous off_next. previous_set-slot half storage z storage t.previous t.next off_next ∙ next_set-slot slots storage z storage t.next t.previous off_previous ∙ same z differs)
            None first xs list.chain there list.distinct (λ q e h. none-some q e)) [
              | inl e ↦ starting_at t.next (sym (ap (λ p. cond (is_some p) first t.next) e.1)) e.2
              | inr e ↦ starting_at first (sym (ap (λ p. cond (is_some p) first t.next) e.2)) e.4
            ];
        distinct = Distinct-without x xs list.distinct;
      }
    where
      starting_at : (start : Option ℕ) → start ≡ first_after first t → Chain (links_of (detached slots t storage) storage) None start (without x xs) → Chain (links_of (detached slots t storage) storage) None (first_after first t) (without x xs)
      starting_at start same chain =
          let P : Option ℕ → Type 0 = λ s. Chain (links_of (detached slots t storage) storage) None s (without x xs) in subst P same chain
