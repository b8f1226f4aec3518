-- Dropping an entry without replicas keeps an arena's invariant, all other entries and all lists.
use Rattle.std.proofs.Common.{◌≡◌, ◌≢◌, ℕ, List, [], ◌∷◌, map, length, get_or, set, false, cond, eqb, Option, Some, None, IsSomeAnd, refl, subst, inl, inr, sym, ap, ◌∙◌}
use Rattle.std.specs.Option.{option_map}
use Rattle.std.specs.Map.{lookup, keys_of}
use Rattle.std.specs.List.{IsDistinct}
use Rattle.std.specs.Prelude.{nat_eq}
use Rattle.std.proofs.lemmas.Bool.{cases_lt, cases_eq, cases_Bool, eqb-true, eqb-false, ne_eqb, cond-false}
use Rattle.std.proofs.lemmas.Option.{none-some, same_Some}
use Rattle.std.proofs.lemmas.List.{get_or-set_same, get_or-set_other, get_or_past, map-set}
use Rattle.std.proofs.Math.ListN.{get_or-map}
use Rattle.slab.specs.Slab.{Slab, get}
use Rattle.bm_arena.specs.declared.arena.BlockEntry.{BlockEntry}
use Rattle.bm_arena.specs.declared.arena.Triplet.{Triplet}
use Rattle.bm_arena.specs.Triplets.{Block, find_triplet, triplet_at, slot_views, entry_view, triplet_view}
use Rattle.bm_arena.specs.Contents.{Contents, dropped}
use Rattle.indexmap.specs.IndexMap.{swap_remove_entry}
use Rattle.bm_arena.specs.Inside.{lists_from, IsArena}
use Rattle.bm_arena.proofs.Triplets.{read}
use Rattle.bm_arena.proofs.EntryViews.{seen_at, entry_seen}
use Rattle.bm_arena.proofs.KeptLinks.{KeepsLinks, IsSound-relinked, lists_from-relinked}

-- a block that is seen without replicas has no triplets
pub no_replicas-seen : (e : BlockEntry) → (entry_view e).replicas ≡ [] → e.triplets.items ≡ []
no_replicas-seen e none = by e.triplets.items none
  where
    by : (ts : List Triplet) → map triplet_view ts ≡ [] → ts ≡ []
    by [] none = refl
    by (t ∷ ts) none = absurd (cc)

module _ (slots new : Slab BlockEntry) (x : ℕ) (e : BlockEntry) (there : get slots x ≡ Some e) (no_replicas : e.triplets.items ≡ []) (is : new.slots ≡ set slots.slots x None)
    (ids after : List (ℕ × ℕ)) (heads : List (ℕ × Option ℕ)) (delimiter : ℕ) (arena : IsArena slots ids heads delimiter) (differs : x ≢ delimiter)
    (updates : (q : ℕ) → lookup (nat_eq q) after ≡ cond (eqb e.id q) None (lookup (nat_eq q) ids)) where
  gone : get new x ≡ None
  gone =
      elim (cases_lt x (length slots.slots)) [
        | inl within ↦ ap (λ l. get_or l x None) is ∙ get_or-set_same slots.slots x None None within
        | inr past ↦ absurd (none-some e (sym (get_or_past slots.slots x None past) ∙ there))
      ]

  kept : (y : ℕ) → y ≢ x → get new y ≡ get slots y
  kept y other = ap (λ l. get_or l y None) is ∙ get_or-set_other slots.slots x y None None other

  same_triplets : (s y : ℕ) → triplet_at new y s ≡ triplet_at slots y s
  same_triplets s y =
      elim (cases_eq y x) [
        | inl same ↦ rw same (ap (read s) gone ∙ sym (ap (read s) there ∙ ap (λ ts. find_triplet ts s) no_replicas))
        | inr other ↦ ap (read s) (kept y other)
      ]

  pub dropped-blocks : slot_views new ≡ set (slot_views slots) x None
  dropped-blocks = ap (map (option_map entry_view)) is ∙ map-set (option_map entry_view) slots.slots x None

  seen_gone : get_or (slot_views new) x None ≡ None
  seen_gone = get_or-map (option_map entry_view) new.slots x None ∙ ap (option_map entry_view) gone

  seen_kept : (y : ℕ) → y ≢ x → get_or (slot_views new) y None ≡ get_or (slot_views slots) y None
  seen_kept y other = ap (λ bs. get_or bs y None) dropped-blocks ∙ get_or-set_other (slot_views slots) x y None None other

  still_seen : (y : ℕ) (b : Block) → get_or (slot_views new) y None ≡ Some b → (y ≢ x) × (get_or (slot_views slots) y None ≡ Some b)
  still_seen y b seen =
      let other : y ≢ x = λ same. none-some b (sym seen_gone ∙ (rw same at seen)) in
      (other, sym (seen_kept y other) ∙ seen)

  own_number : lookup (nat_eq e.id) ids ≡ Some x
  own_number = arena.numbers.known x (entry_view e) (seen_at slots x e there) differs

  keep_links : (s y : ℕ) (t : Triplet) → triplet_at slots y s ≡ Some t → KeepsLinks t (triplet_at new y s)
  keep_links s y t h = (t, same_triplets s y ∙ h, refl, refl)

  keep_back : (s y : ℕ) (u : Triplet) → triplet_at new y s ≡ Some u → (t : Triplet) × (triplet_at slots y s ≡ Some t)
  keep_back s y u h = (u, sym (same_triplets s y) ∙ h)

  pub dropped-lists : lists_from new heads ≡ lists_from slots heads
  dropped-lists = lists_from-relinked slots new keep_links keep_back heads arena.sound arena.unique

  pub dropped-arena : IsDistinct nat_eq (keys_of after) → IsArena new after heads delimiter
  dropped-arena each = record {
    sound = IsSound-relinked slots new keep_links keep_back heads arena.sound (λ y b seen. let was = still_seen y b seen in arena.sound.once y b was.1);
    unique = arena.unique;
    numbers = record {
      there = λ id slot found.
          elim (cases_Bool (eqb e.id id)) [
            | inl same ↦ absurd (none-some slot (rw same at (sym (updates id) ∙ found)))
            | inr other ↦
                let before : lookup (nat_eq id) ids ≡ Some slot = rw other at (sym (updates id) ∙ found) in
                let was = arena.numbers.there id slot before in
                let apart : slot ≢ x = λ s.
                let one : was.1 ≡ entry_view e = same_Some was.1 (entry_view e) (sym was.2 ∙ ap (λ z. get_or (slot_views slots) z None) s ∙ seen_at slots x e there) in
                eqb-false e.id id other (sym (ap (λ (b : Block). b.id) one) ∙ was.3) in
                (was.0, was.1, seen_kept slot apart ∙ was.2, was.3)
          ];
      known = λ slot b seen unmarked.
          let was = still_seen slot b seen in
          let before = arena.numbers.known slot b was.1 unmarked in
          let other : eqb e.id b.id ≡ false = ne_eqb e.id b.id (λ s.
          let P : ℕ → Type 0 = λ k. lookup (nat_eq k) ids ≡ Some slot in
          was.0 (same_Some slot x (sym (subst P (sym s) before) ∙ own_number))) in
          updates b.id ∙ cond-false _ _ _ other ∙ before;
      marker =
          let b = arena.numbers.marker in
          (b.0, seen_kept delimiter (λ s. differs (sym s)) ∙ b.1, b.2);
      each = each;
      small = λ slot b seen. arena.numbers.small slot b (still_seen slot b seen).1;
    };
  }

-- the number that is seen is the entry's
pub id-seen : (slots : Slab BlockEntry) (x id : ℕ) → ((e : BlockEntry) → get slots x ≡ Some e → id ≡ e.id) → (b : Block) → get_or (slot_views slots) x None ≡ Some b → id ≡ b.id
id-seen slots x id is b seen =
    let e = entry_seen slots x b seen in
    is e.0 e.1 ∙ ap (λ (c : Block). c.id) e.2

-- the invariant and the view after `drop_entry`, from the contracts of its calls
module _ (slots new : Slab BlockEntry) (x id : ℕ) (removed : Some id ≡ option_map (λ (e : BlockEntry). e.id) (get slots x)) (is : new.slots ≡ set slots.slots x None)
    (no_replicas : IsSomeAnd (get_or (slot_views slots) x None) (λ (b : Block). b.replicas ≡ []))
    (ids after : List (ℕ × ℕ)) (heads : List (ℕ × Option ℕ)) (delimiter : ℕ) (arena : IsArena slots ids heads delimiter) (differs : x ≢ delimiter)
    (updates : (q : ℕ) → lookup (nat_eq q) after ≡ cond (eqb id q) None (lookup (nat_eq q) ids)) where
  entry : (e : BlockEntry) × (get slots x ≡ Some e) × (e.id ≡ id) × (e.triplets.items ≡ [])
  entry = by (get slots x) refl removed
    where
      by : (o : Option BlockEntry) → get slots x ≡ o → Some id ≡ option_map (λ (e : BlockEntry). e.id) o → (e : BlockEntry) × (get slots x ≡ Some e) × (e.id ≡ id) × (e.triplets.items ≡ [])
      by None at named = absurd (none-some id (sym named))
      by (Some e) at named =
          let P : Option Block → Type 0 = λ o. IsSomeAnd o (λ (b : Block). b.replicas ≡ []) in
          (e, at, sym (same_Some id e.id named), no_replicas-seen e (subst P (seen_at slots x e at) no_replicas))

  updates_own : (q : ℕ) → lookup (nat_eq q) after ≡ cond (eqb entry.0.id q) None (lookup (nat_eq q) ids)
  updates_own q = rw entry.2 (updates q)

  pub drop_entry-arena : IsDistinct nat_eq (keys_of after) → IsArena new after heads delimiter
  drop_entry-arena each = dropped-arena slots new x entry.0 entry.1 entry.3 is ids after heads delimiter arena differs updates_own each

  pub drop_entry-view : (steps bound : ℕ) → after ≡ swap_remove_entry (nat_eq id) ids → (b : Block) → get_or (slot_views slots) x None ≡ Some b
      → ◌≡◌ {A = Contents} (record { blocks = slot_views new; ids = after; lists = lists_from new heads; delimiter = delimiter; steps = steps; bound = bound })
      (dropped (record { blocks = slot_views slots; ids = ids; lists = lists_from slots heads; delimiter = delimiter; steps = steps; bound = bound }) x b.id)
  drop_entry-view steps bound after_is b seen =
      let named : b.id ≡ id = ap (λ (c : Block). c.id) (same_Some b (entry_view entry.0) (sym seen ∙ seen_at slots x entry.0 entry.1)) ∙ entry.2 in
      let blocks = dropped-blocks slots new x entry.0 entry.1 entry.3 is ids after heads delimiter arena differs updates_own in
      let lists = dropped-lists slots new x entry.0 entry.1 entry.3 is ids after heads delimiter arena differs updates_own in
      rw (named, blocks, lists, after_is) refl

  pub drop_entry-numbers : (b : Block) → get_or (slot_views slots) x None ≡ Some b → (q : ℕ) → lookup (nat_eq q) after ≡ cond (eqb b.id q) None (lookup (nat_eq q) ids)
  drop_entry-numbers b seen q =
      let named : b.id ≡ id = ap (λ (c : Block). c.id) (same_Some b (entry_view entry.0) (sym seen ∙ seen_at slots x entry.0 entry.1)) ∙ entry.2 in
      rw named (updates q)

  pub drop_entry-entries : (y : ℕ) → get_or (slot_views new) y None ≡ cond (eqb y x) None (get_or (slot_views slots) y None)
  drop_entry-entries y =
      elim (cases_Bool (eqb y x)) [
        | inl same ↦ rw (same, eqb-true y x same) (seen_gone slots new x entry.0 entry.1 entry.3 is ids after heads delimiter arena differs updates_own)
        | inr other ↦ rw other (seen_kept slots new x entry.0 entry.1 entry.3 is ids after heads delimiter arena differs updates_own y (eqb-false y x other))
      ]

  pub drop_entry-lists : lists_from new heads ≡ lists_from slots heads
  drop_entry-lists = dropped-lists slots new x entry.0 entry.1 entry.3 is ids after heads delimiter arena differs updates_own

pub drop_entry-none : (slots : Slab BlockEntry) (x : ℕ) → None ≡ option_map (λ (e : BlockEntry). e.id) (get slots x) → IsSomeAnd (get_or (slot_views slots) x None) (λ (b : Block). b.replicas ≡ []) → ⊥
drop_entry-none slots x named no_replicas = by (get slots x) refl named
  where
    by : (o : Option BlockEntry) → get slots x ≡ o → None ≡ option_map (λ (e : BlockEntry). e.id) o → ⊥
    by None at named =
        let nothing : get_or (slot_views slots) x None ≡ None = get_or-map (option_map entry_view) slots.slots x None ∙ ap (option_map entry_view) at in
        let P : Option Block → Type 0 = λ o. IsSomeAnd o (λ (b : Block). b.replicas ≡ []) in
        subst P nothing no_replicas
    by (Some e) at named = none-some e.id named
