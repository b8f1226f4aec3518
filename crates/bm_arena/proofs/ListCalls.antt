-- Each list operation keeps the invariant, by the contracts of its calls.
use Rattle.std.proofs.Common.{◌≡◌, ℕ, suc, ◌<◌, ◌≤◌, List, [], ◌∷◌, length, get_or, eqb, Option, Some, None, IsSome, IsSomeAnd, refl, subst, inl, inr, sym, ap, ◌∙◌, arith}
use Rattle.std.specs.Option.{option_map}
use Rattle.std.specs.Map.{lookup, set_value, keys_of}
use Rattle.std.specs.List.{IsDistinct}
use Rattle.std.specs.Prelude.{nat_eq}
use Rattle.std.proofs.lemmas.Bool.{cases_eq, cases_Bool, false≢true}
use Rattle.std.proofs.lemmas.Option.{none-some, same_Some}
use Rattle.std.proofs.lemmas.List.{get_or-set_other}
use Rattle.std.proofs.Math.ListN.{get_or-map}
use Rattle.slab.specs.Slab.{Slab, get}
use Rattle.bm_arena.specs.declared.arena.BlockEntry.{BlockEntry}
use Rattle.bm_arena.specs.declared.arena.Triplet.{Triplet}
use Rattle.bm_base.specs.declared.replica.Marks.{Marks}
use Rattle.bm_arena.specs.Triplets.{Block, find_triplet, triplet_at, slot_views, entry_view, change_block, added, removed, as_first, first_after, change_at, previous_set, detached}
use Rattle.bm_arena.specs.Contents.{Contents, with_replica, without_replica, linked_front, unlinked, moved_front, saturating_next}
use Rattle.bm_arena.specs.Inside.{list_from, lists_from, IsSound, AreIds, IsArena}
use Rattle.bm_arena.proofs.Triplets.{read, get_or-set_here}
use Rattle.bm_arena.proofs.EntryViews.{marks_in, marks_of, none_inside, marks-seen, lookup-lists_from}
use Rattle.bm_arena.proofs.Operations.{linked-seen, out-seen, moved-seen, linked-sound, linked-view, out-sound, out-view, moved-sound, moved-view}

length-set_value : (storage : ℕ) (w : Option ℕ) (es : List (ℕ × Option ℕ)) → length (set_value (nat_eq storage) es w) ≡ length es
length-set_value storage w [] = refl
length-set_value storage w (e ∷ es) =
    elim (cases_Bool (eqb storage e.0)) [ inl here ↦ rw here refl | inr other ↦ rw other (ap (λ n. suc n) (length-set_value storage w es)) ]

-- numbers and slots stay if one block changes in anything but its number
pub AreIds-change : (blocks : List (Option Block)) (ids : List (ℕ × ℕ)) (delimiter heads x : ℕ) (h : Block → Block) → ((b : Block) → (h b).id ≡ b.id) → ((b : Block) → get_or blocks x None ≡ Some b → b.capacity ≤ (h b).capacity) → AreIds blocks ids delimiter heads → AreIds (change_block h blocks x) ids delimiter heads
AreIds-change blocks ids delimiter heads x h keeps_id keeps_capacity are = record {
  there = λ id slot is.
      let before = are.there id slot is in
      let after = at_change slot before.1 before.2 in
      (before.0, after.0, after.1, after.2 ∙ before.3);
  known = λ slot b is differs.
      let before = at_change_back slot b is in
      rw (← before.2) (are.known slot before.0 before.1 differs);
  each = are.each;
  small = λ slot b is. let before = at_change_back slot b is in are.small slot before.0 before.1;
  marker =
      let after = capacity_change are.marker.0 are.marker.1 in
      (after.0, after.1, omega (arith, after.2, are.marker.2));
}
  where
    at_change : (slot : ℕ) (b : Block) → get_or blocks slot None ≡ Some b → (c : Block) × (get_or (change_block h blocks x) slot None ≡ Some c) × (c.id ≡ b.id)
    at_change slot b is =
        elim (cases_eq slot x) [
          | inl same ↦ (h b, rw same (get_or-set_here blocks x (option_map h) refl ∙ ap (option_map h) (rw same at is)), keeps_id b)
          | inr differs ↦ (b, get_or-set_other blocks x slot _ None differs ∙ is, refl)
        ]

    capacity_change : (b : Block) → get_or blocks delimiter None ≡ Some b → (c : Block) × (get_or (change_block h blocks x) delimiter None ≡ Some c) × (b.capacity ≤ c.capacity)
    capacity_change b is =
        elim (cases_eq delimiter x) [
          | inl same ↦ (h b, rw same (get_or-set_here blocks x (option_map h) refl ∙ ap (option_map h) (rw same at is)), keeps_capacity b (rw same at is))
          | inr differs ↦ (b, get_or-set_other blocks x delimiter _ None differs ∙ is, omega arith)
        ]

    at_change_back : (slot : ℕ) (c : Block) → get_or (change_block h blocks x) slot None ≡ Some c → (b : Block) × (get_or blocks slot None ≡ Some b) × (b.id ≡ c.id)
    at_change_back slot c is =
        elim (cases_eq slot x) [
          | inl same ↦
              let now : option_map h (get_or blocks x None) ≡ Some c = sym (get_or-set_here blocks x (option_map h) refl) ∙ (rw same at is) in
              let before = inside_of (get_or blocks x None) now in
              (before.0, rw same before.1, before.2)
          | inr differs ↦ (c, sym (get_or-set_other blocks x slot _ None differs) ∙ is, refl)
        ]
      where
        inside_of : (o : Option Block) → option_map h o ≡ Some c → (b : Block) × (o ≡ Some b) × (b.id ≡ c.id)
        inside_of None e = absurd (none-some c e)
        inside_of (Some b) e = (b, refl, sym (keeps_id b) ∙ ap (λ (d : Block). d.id) (same_Some (h b) c e))

-- the invariant and the view after a slot is linked, from a contract of `link_front`
module _ (slots : Slab BlockEntry) (heads : List (ℕ × Option ℕ)) (first : Option ℕ) (storage x : ℕ) (marks : Marks)
    (ids : List (ℕ × ℕ)) (delimiter : ℕ) (arena : IsArena slots ids heads delimiter) (known : Some first ≡ lookup (nat_eq storage) heads)
    (capacity : IsSomeAnd (get_or (slot_views slots) x None) (λ (b : Block). length b.replicas < b.capacity))
    (absent : marks_in (slot_views slots) x storage ≡ None) where
  abbrev new_triplet : Triplet
  new_triplet = record { storage = storage; previous = None; next = first; marks = marks }

  here : (e : BlockEntry) × (get slots x ≡ Some e) × (find_triplet e.triplets.items storage ≡ None)
  here = by (get slots x) refl
    where
      by : (o : Option BlockEntry) → get slots x ≡ o → (e : BlockEntry) × (get slots x ≡ Some e) × (find_triplet e.triplets.items storage ≡ None)
      by None at =
          let nothing : get_or (slot_views slots) x None ≡ None = get_or-map (option_map entry_view) slots.slots x None ∙ ap (option_map entry_view) at in
          let P : Option Block → Type 0 = λ o. IsSomeAnd o (λ (b : Block). length b.replicas < b.capacity) in
          absurd (subst P nothing capacity)
      by (Some e) at =
          let gone : triplet_at slots x storage ≡ None = none_inside marks_of (triplet_at slots x storage) (sym (marks-seen slots x storage) ∙ absent) in
          (e, at, sym (ap (read storage) at) ∙ gone)

  pub link_front-sound : (mid new : Slab BlockEntry) (entries : List (ℕ × Option ℕ)) (w : Option ℕ) → mid ≡ added slots x new_triplet → new ≡ previous_set mid first storage (Some x) → entries ≡ set_value (nat_eq storage) heads w → w ≡ Some x → IsDistinct nat_eq (keys_of entries) → IsArena new ids entries delimiter
  link_front-sound mid new entries w mid_is new_is entries_is w_is unique =
      let unique_at = rw (entries_is, w_is) at unique in
      rw (entries_is, w_is, new_is, mid_is) (record {
        unique = unique_at;
        sound = linked-sound slots heads first storage arena.sound (sym known) x marks here.0 here.1 here.2;
        numbers = rw (linked-seen slots heads first storage arena.sound (sym known) x marks here.0 here.1 here.2, length-set_value storage (Some x) heads)
            (AreIds-change (slot_views slots) ids delimiter (length heads) x (with_replica storage marks) (λ _. refl) (λ _ _. omega arith) arena.numbers);
      })

  pub link_front-view : (mid new : Slab BlockEntry) (entries : List (ℕ × Option ℕ)) (w : Option ℕ) (steps counted bound : ℕ) → mid ≡ added slots x new_triplet → new ≡ previous_set mid first storage (Some x) → entries ≡ set_value (nat_eq storage) heads w → w ≡ Some x → counted ≡ saturating_next steps
      → ◌≡◌ {A = Contents} (record { ids = ids; delimiter = delimiter; blocks = slot_views new; lists = lists_from new entries; steps = counted; bound = bound })
      (linked_front (record { ids = ids; delimiter = delimiter; blocks = slot_views slots; lists = lists_from slots heads; steps = steps; bound = bound }) x storage marks)
  link_front-view mid new entries w steps counted bound mid_is new_is entries_is w_is counted_is =
      rw (entries_is, w_is, new_is, mid_is, counted_is) (linked-view slots heads first storage arena.sound (sym known) x marks here.0 here.1 here.2 arena.unique ids delimiter steps bound)

-- a storage whose head is not found has none
pub no_head : (slots : Slab BlockEntry) (heads : List (ℕ × Option ℕ)) (storage : ℕ) → None ≡ lookup (nat_eq storage) heads → IsSome (lookup (nat_eq storage) (lists_from slots heads)) → ⊥
no_head slots heads storage none some =
    let nothing : lookup (nat_eq storage) (lists_from slots heads) ≡ None = lookup-lists_from slots storage heads ∙ ap (option_map (list_from slots storage)) (sym none) in
    let P : Option (List ℕ) → Type 0 = λ o. IsSome o in
    false≢true (subst P nothing some)

-- the invariant and the view after a slot is unlinked or moved, from the contracts of `unlink` and
-- `move_front`
module _ (slots : Slab BlockEntry) (heads : List (ℕ × Option ℕ)) (first : Option ℕ) (storage x : ℕ) (t : Triplet)
    (ids : List (ℕ × ℕ)) (delimiter : ℕ) (arena : IsArena slots ids heads delimiter) (known : Some first ≡ lookup (nat_eq storage) heads) (own : Some t ≡ triplet_at slots x storage) where
  holder : (e : BlockEntry) × (get slots x ≡ Some e)
  holder = by (get slots x) refl
    where
      by : (o : Option BlockEntry) → get slots x ≡ o → (e : BlockEntry) × (get slots x ≡ Some e)
      by None at = absurd (none-some t (sym (own ∙ ap (read storage) at)))
      by (Some e) at = (e, at)

  pub unlink-sound : (mid new : Slab BlockEntry) (entries : List (ℕ × Option ℕ)) (w : Option ℕ) → mid ≡ removed slots x storage → new ≡ detached mid t storage → entries ≡ set_value (nat_eq storage) heads w → w ≡ first_after first t → IsDistinct nat_eq (keys_of entries) → IsArena new ids entries delimiter
  unlink-sound mid new entries w mid_is new_is entries_is w_is unique =
      let unique_at = rw (entries_is, w_is) at unique in
      rw (entries_is, w_is, new_is, mid_is) (record {
        unique = unique_at;
        sound = out-sound slots heads first storage arena.sound (sym known) x t holder.0 holder.1 (sym own);
        numbers = rw (out-seen slots heads first storage arena.sound (sym known) x t holder.0 holder.1 (sym own), length-set_value storage (first_after first t) heads)
            (AreIds-change (slot_views slots) ids delimiter (length heads) x (without_replica storage) (λ _. refl) (λ _ _. omega arith) arena.numbers);
      })

  pub unlink-view : (mid new : Slab BlockEntry) (entries : List (ℕ × Option ℕ)) (w : Option ℕ) (steps counted bound : ℕ) → mid ≡ removed slots x storage → new ≡ detached mid t storage → entries ≡ set_value (nat_eq storage) heads w → w ≡ first_after first t → counted ≡ saturating_next steps
      → ◌≡◌ {A = Contents} (record { ids = ids; delimiter = delimiter; blocks = slot_views new; lists = lists_from new entries; steps = counted; bound = bound })
      (unlinked (record { ids = ids; delimiter = delimiter; blocks = slot_views slots; lists = lists_from slots heads; steps = steps; bound = bound }) x storage)
  unlink-view mid new entries w steps counted bound mid_is new_is entries_is w_is counted_is =
      rw (entries_is, w_is, new_is, mid_is, counted_is) (out-view slots heads first storage arena.sound (sym known) x t holder.0 holder.1 (sym own) arena.unique ids delimiter steps bound)

  pub move_front-sound : (front mid new : Slab BlockEntry) (middle w : Option ℕ) (entries : List (ℕ × Option ℕ)) → front ≡ change_at (as_first first) slots x storage → mid ≡ detached front t storage → middle ≡ first_after first t → new ≡ previous_set mid middle storage (Some x) → entries ≡ set_value (nat_eq storage) heads w → w ≡ Some x → IsDistinct nat_eq (keys_of entries) → IsArena new ids entries delimiter
  move_front-sound front mid new middle w entries front_is mid_is middle_is new_is entries_is w_is unique =
      let unique_at = rw (entries_is, w_is) at unique in
      rw (entries_is, w_is, new_is, mid_is, front_is, middle_is) (record {
        unique = unique_at;
        sound = moved-sound slots heads first storage arena.sound (sym known) x t holder.0 holder.1 (sym own);
        numbers = rw (moved-seen slots heads first storage arena.sound (sym known) x t holder.0 holder.1 (sym own), length-set_value storage (Some x) heads) arena.numbers;
      })

  pub move_front-view : (front mid new : Slab BlockEntry) (middle w : Option ℕ) (entries : List (ℕ × Option ℕ)) (steps counted bound : ℕ) → front ≡ change_at (as_first first) slots x storage → mid ≡ detached front t storage → middle ≡ first_after first t → new ≡ previous_set mid middle storage (Some x) → entries ≡ set_value (nat_eq storage) heads w → w ≡ Some x → counted ≡ saturating_next steps
      → ◌≡◌ {A = Contents} (record { ids = ids; delimiter = delimiter; blocks = slot_views new; lists = lists_from new entries; steps = counted; bound = bound })
      (moved_front (record { ids = ids; delimiter = delimiter; blocks = slot_views slots; lists = lists_from slots heads; steps = steps; bound = bound }) x storage)
  move_front-view front mid new middle w entries steps counted bound front_is mid_is middle_is new_is entries_is w_is counted_is =
      rw (entries_is, w_is, new_is, mid_is, front_is, middle_is, counted_is) (moved-view slots heads first storage arena.sound (sym known) x t holder.0 holder.1 (sym own) arena.unique ids delimiter steps bound)

-- a replica without a triplet is not seen
pub no_replica : (slots : Slab BlockEntry) (storage x : ℕ) → None ≡ triplet_at slots x storage → IsSome (marks_in (slot_views slots) x storage) → ⊥
no_replica slots storage x none some =
    let nothing : marks_in (slot_views slots) x storage ≡ None = marks-seen slots x storage ∙ ap (option_map marks_of) (sym none) in
    let P : Option Marks → Type 0 = λ o. IsSome o in
    false≢true (subst P nothing some)

pub headed : (slots : Slab BlockEntry) (heads : List (ℕ × Option ℕ)) (storage x : ℕ) (t : Triplet) → IsSound slots heads → Some t ≡ triplet_at slots x storage → None ≡ lookup (nat_eq storage) heads → ⊥
headed slots heads storage x t sound own none =
    let found = sound.complete x storage t (sym own) in
    none-some found.0 (none ∙ found.1)

pub no_list : (slots : Slab BlockEntry) (heads : List (ℕ × Option ℕ)) (storage x : ℕ) → IsSound slots heads → None ≡ lookup (nat_eq storage) heads → IsSome (marks_in (slot_views slots) x storage) → ⊥
no_list slots heads storage x sound none some = by (triplet_at slots x storage) refl
  where
    by : (o : Option Triplet) → triplet_at slots x storage ≡ o → ⊥
    by None is = no_replica slots storage x (sym is) some
    by (Some t) is = headed slots heads storage x t sound (sym is) none
