-- More capacity keeps an arena's invariant, as does an empty entry for a new number at a free slot.
use Rattle.std.proofs.Common.{◌≡◌, ◌≢◌, ◌⊎◌, ℕ, ◌<◌, List, [], ◌∷◌, ◌++◌, map, get_or, false, cond, eqb, Option, Some, None, refl, subst, inl, inr, sym, ap, ◌∙◌, arith, max, ◌+◌}
use Rattle.std.specs.Option.{option_map}
use Rattle.std.specs.Map.{lookup, keys_of}
use Rattle.std.specs.List.{IsDistinct, AllByRecursion}
use Rattle.std.specs.Prelude.{nat_eq}
use Rattle.std.proofs.lemmas.Bool.{cases_eq, cases_Bool, eqb-true, eqb-false, ne_eqb, eq-eqb}
use Rattle.std.proofs.lemmas.Option.{none-some, same_Some}
use Rattle.std.proofs.Math.ListN.{get_or-map}
use Rattle.slab.specs.Slab.{Slab, get, Updates}
use Rattle.bm_arena.specs.declared.arena.BlockEntry.{BlockEntry}
use Rattle.bm_arena.specs.declared.arena.TheConstants.{INLINE_TRIPLETS}
use Rattle.bm_arena.specs.Triplets.{Block, find_triplet, triplet_at, links_of, slot_views, entry_view}
use Rattle.bm_maps.specs.SlotLists.{Distinct}
use Rattle.bm_maps.specs.SlotLinks.{end_of_links}
use Rattle.bm_arena.specs.Contents.{IsAdded, empty_block}
use Rattle.bm_arena.specs.Inside.{list_from, lists_from, storages_of, IsSound, IsArena}
use Rattle.bm_arena.proofs.Triplets.{read}
use Rattle.bm_arena.proofs.SoundLinks.{list_from-list, IsList-same}
use Rattle.bm_arena.proofs.EntryViews.{seen_at, storages_seen}

-- a property of each key of a list holds of a key that is found
among_keys : {X : Type 0} (P : ℕ → Type 0) (es : List (ℕ × X)) (s : ℕ) (v : X) → AllByRecursion P (keys_of es) → lookup (nat_eq s) es ≡ Some v → P s
among_keys P [] s v all is = absurd (none-some v is)
among_keys P (e ∷ es) s v all is =
    elim (cases_Bool (eqb s e.0)) [
      | inl here ↦ subst P (sym (eqb-true s e.0 here)) all.0
      | inr other ↦ among_keys P es s v all.1 (rw other at is)
    ]

-- the lists that are seen are the same if the list from each head is
pub lists_from-same : (old new : Slab BlockEntry) (es : List (ℕ × Option ℕ)) → IsDistinct nat_eq (keys_of es) → ((s : ℕ) (first : Option ℕ) → lookup (nat_eq s) es ≡ Some first → list_from new s first ≡ list_from old s first) → lists_from new es ≡ lists_from old es
unfolding IsDistinct
lists_from-same old new [] distinct same = refl
lists_from-same old new (e ∷ es) distinct same =
    let head : list_from new e.0 e.1 ≡ list_from old e.0 e.1 = same e.0 e.1 (rw (eq-eqb e.0 e.0 refl) refl) in
    let later : lists_from new es ≡ lists_from old es = lists_from-same old new es distinct.1 (λ s first is.
    let apart : eqb e.0 s ≡ false = among_keys (λ k. eqb e.0 k ≡ false) es s first distinct.0 is in
    let test : eqb s e.0 ≡ false = ne_eqb s e.0 (λ q. eqb-false e.0 s apart (sym q)) in
    same s first (rw test is)) in
    rw (head, later) refl

-- an entry without triplets is inserted at a vacant slot
module _ (old new : Slab BlockEntry) (key : ℕ) (e : BlockEntry) (vacant : get old key ≡ None) (up : Updates old new key (Some e)) (no_replicas : e.triplets.items ≡ []) where
  links-inserted : (s x : ℕ) → triplet_at new x s ≡ triplet_at old x s
  links-inserted s x =
      elim (cases_eq x key) [
        | inl same ↦
            rw same (ap (read s) up.changed ∙ ap (λ ts. find_triplet ts s) no_replicas ∙ sym (ap (read s) vacant))
        | inr differs ↦ ap (read s) (up.others x differs)
      ]

  pub seen-inserted_other : (x : ℕ) → x ≢ key → get_or (slot_views new) x None ≡ get_or (slot_views old) x None
  seen-inserted_other x differs =
      get_or-map (option_map entry_view) new.slots x None ∙ ap (option_map entry_view) (up.others x differs) ∙ sym (get_or-map (option_map entry_view) old.slots x None)

  pub seen-inserted_here : get_or (slot_views new) key None ≡ Some (entry_view e)
  seen-inserted_here = seen_at new key e up.changed

  pub seen-inserted_before : get_or (slot_views old) key None ≡ None
  seen-inserted_before = get_or-map (option_map entry_view) old.slots key None ∙ ap (option_map entry_view) vacant

  module _ (heads : List (ℕ × Option ℕ)) (sound : IsSound old heads) where
    same_list : (s : ℕ) (first : Option ℕ) → lookup (nat_eq s) heads ≡ Some first → list_from new s first ≡ list_from old s first
    same_list s first is =
        list_from-list new s first (list_from old s first) (IsList-same (links_of old s) (links_of new s) first (list_from old s first) (links-inserted s) (sound.lists s first is))

    pub lists_from-inserted : IsDistinct nat_eq (keys_of heads) → lists_from new heads ≡ lists_from old heads
    lists_from-inserted distinct = lists_from-same old new heads distinct same_list

    pub IsSound-inserted : IsSound new heads
    IsSound-inserted = record {
      lists = λ s first is.
          rw (same_list s first is) (IsList-same (links_of old s) (links_of new s) first (list_from old s first) (links-inserted s) (sound.lists s first is));
      complete = λ x s t is.
          let before = sound.complete x s t (sym (links-inserted s x) ∙ is) in
          (before.0, before.1, rw (same_list s before.0 before.1) before.2);
      once = λ x b is.
          elim (cases_eq x key) [
            | inl same ↦
                let now : Some (entry_view e) ≡ Some b = sym seen-inserted_here ∙ (rw same at is) in
                let none : Distinct (storages_of (entry_view e)) = rw (storages_seen e, no_replicas) tt in
                let P : Block → Type 0 = λ c. Distinct (storages_of c) in
                subst P (same_Some (entry_view e) b now) none
            | inr differs ↦ sound.once x b (sym (seen-inserted_other x differs) ∙ is)
          ];
    }

-- a slab that only got more capacity
pub IsArena-capacity : (slots new : Slab BlockEntry) (capacity : ℕ) (ids : List (ℕ × ℕ)) (heads : List (ℕ × Option ℕ)) (delimiter : ℕ) → new ≡ record slots { capacity = capacity } → IsArena slots ids heads delimiter → IsArena new ids heads delimiter
IsArena-capacity slots new capacity ids heads delimiter is arena =
    rw is (record {
      sound = record { lists = arena.sound.lists; complete = arena.sound.complete; once = arena.sound.once };
      unique = arena.unique;
      numbers = arena.numbers;
    })

-- listing one more number changes no earlier look-up
pub lookup-push_before : {X : Type 0} (q k : ℕ) (v w : X) (es : List (ℕ × X)) → lookup (nat_eq q) es ≡ Some w → lookup (nat_eq q) (es ++ (k, v) ∷ []) ≡ Some w
lookup-push_before q k v w [] is = absurd (none-some w is)
lookup-push_before q k v w (e ∷ es) is =
    elim (cases_Bool (eqb q e.0)) [
      | inl here ↦ rw here (rw here at is)
      | inr other ↦ rw other (lookup-push_before q k v w es (rw other at is))
    ]

pub lookup-push_here : {X : Type 0} (k : ℕ) (v : X) (es : List (ℕ × X)) → lookup (nat_eq k) es ≡ None → lookup (nat_eq k) (es ++ (k, v) ∷ []) ≡ Some v
lookup-push_here k v [] none = rw (eq-eqb k k refl) refl
lookup-push_here k v (e ∷ es) none =
    elim (cases_Bool (eqb k e.0)) [
      | inl here ↦ absurd (none-some e.1 (sym none ∙ rw here refl))
      | inr other ↦ rw other (lookup-push_here k v es (rw other at none))
    ]

pub lookup-push_cases : {X : Type 0} (q k : ℕ) (v w : X) (es : List (ℕ × X)) → lookup (nat_eq q) (es ++ (k, v) ∷ []) ≡ Some w → (lookup (nat_eq q) es ≡ Some w) ⊎ ((q ≡ k) × (w ≡ v))
lookup-push_cases q k v w [] is =
    elim (cases_Bool (eqb q k)) [
      | inl here ↦ inr (eqb-true q k here, sym (same_Some v w (rw here at is)))
      | inr other ↦ absurd (none-some w (rw other at is))
    ]
lookup-push_cases q k v w (e ∷ es) is =
    elim (cases_Bool (eqb q e.0)) [
      | inl here ↦ inl (rw here (rw here at is))
      | inr other ↦ rw other (lookup-push_cases q k v w es (rw other at is))
    ]

pub lookup-push : {X : Type 0} (q k : ℕ) (v : X) (es : List (ℕ × X)) → lookup (nat_eq k) es ≡ None → lookup (nat_eq q) (es ++ (k, v) ∷ []) ≡ cond (eqb q k) (Some v) (lookup (nat_eq q) es)
lookup-push q k v [] none = refl
lookup-push q k v (e ∷ es) none =
    elim (cases_Bool (eqb k e.0)) [
      | inl here ↦ absurd (none-some e.1 (sym none ∙ rw here refl))
      | inr apart ↦
          elim (cases_Bool (eqb q e.0)) [
            | inl same ↦
                let other : eqb q k ≡ false = ne_eqb q k (λ e_is. eqb-false k e.0 apart (sym e_is ∙ eqb-true q e.0 same)) in
                rw (same, other) refl
            | inr passed ↦ rw passed (lookup-push q k v es (rw apart at none))
          ]
    ]

-- a new number gets an entry
module _ (old new : Slab BlockEntry) (key : ℕ) (e : BlockEntry) (vacant : get old key ≡ None) (up : Updates old new key (Some e)) (no_replicas : e.triplets.items ≡ [])
    (ids : List (ℕ × ℕ)) (heads : List (ℕ × Option ℕ)) (delimiter : ℕ) (arena : IsArena old ids heads delimiter) (absent : lookup (nat_eq e.id) ids ≡ None)
    (below : key < end_of_links) where
  seen_here : get_or (slot_views new) key None ≡ Some (entry_view e)
  seen_here = seen-inserted_here old new key e vacant up no_replicas

  seen_elsewhere : (x : ℕ) → x ≢ key → get_or (slot_views new) x None ≡ get_or (slot_views old) x None
  seen_elsewhere = seen-inserted_other old new key e vacant up no_replicas

  -- a slot that had a block is not the new slot
  was_other : (x : ℕ) (b : Block) → get_or (slot_views old) x None ≡ Some b → x ≢ key
  was_other x b is same = none-some b (sym (seen-inserted_before old new key e vacant up no_replicas) ∙ (rw same at is))

  pub added_unmarked : key ≢ delimiter
  added_unmarked same = was_other delimiter arena.numbers.marker.0 arena.numbers.marker.1 (sym same)

  pub IsArena-added : IsDistinct nat_eq (keys_of (ids ++ (e.id, key) ∷ [])) → IsArena new (ids ++ (e.id, key) ∷ []) heads delimiter
  IsArena-added each = record {
    sound = IsSound-inserted old new key e vacant up no_replicas heads arena.sound;
    unique = arena.unique;
    numbers = record {
      there = λ id slot is.
          elim (lookup-push_cases id e.id key slot ids is) [
            | inl before ↦
                let was = arena.numbers.there id slot before in
                (was.0, was.1, seen_elsewhere slot (was_other slot was.1 was.2) ∙ was.2, was.3)
            | inr now ↦ (λ s. added_unmarked (sym now.1 ∙ s), entry_view e, rw now.1 seen_here, sym now.0)
          ];
      known = λ slot b is differs.
          elim (cases_eq slot key) [
            | inl same ↦
                let one : entry_view e ≡ b = same_Some (entry_view e) b (sym seen_here ∙ (rw same at is)) in
                let P : Block → Type 0 = λ c. lookup (nat_eq c.id) (ids ++ (e.id, key) ∷ []) ≡ Some slot in
                subst P one (rw same (lookup-push_here e.id key ids absent))
            | inr apart ↦ lookup-push_before b.id e.id key slot ids (arena.numbers.known slot b (sym (seen_elsewhere slot apart) ∙ is) differs)
          ];
      marker =
          let was = arena.numbers.marker in
          (was.0, seen_elsewhere delimiter (was_other delimiter was.0 was.1) ∙ was.1, was.2);
      each = each;
      small = λ slot b is.
          elim (cases_eq slot key) [
            | inl same ↦ rw same below
            | inr apart ↦ arena.numbers.small slot b (sym (seen_elsewhere slot apart) ∙ is)
          ];
    };
  }

  pub IsAdded-view : (steps bound : ℕ) → e.info ≡ None → e.triplets.capacity ≡ INLINE_TRIPLETS
      → IsAdded
      (record { blocks = slot_views old; ids = ids; lists = lists_from old heads; delimiter = delimiter; steps = steps; bound = bound })
      (record { blocks = slot_views new; ids = ids ++ (e.id, key) ∷ []; lists = lists_from new heads; delimiter = delimiter; steps = steps; bound = max bound (key + 1) })
      e.id key
  IsAdded-view steps bound no_info three = record {
    vacant = seen-inserted_before old new key e vacant up no_replicas;
    entry = seen_here ∙ ap Some (empty_seen no_info three);
    marked = added_unmarked;
    others = seen_elsewhere;
    ids = refl;
    found = λ other. lookup-push other e.id key ids absent;
    lists = lists_from-inserted old new key e vacant up no_replicas heads arena.sound arena.unique;
    steps = refl;
    delimiter = refl;
    bound = refl;
  }
    where
      empty_seen : e.info ≡ None → e.triplets.capacity ≡ INLINE_TRIPLETS → entry_view e ≡ empty_block e.id
      empty_seen no_info three = rw (no_info, three, no_replicas) refl

-- the first arena
pub IsSound-first : (slots : Slab BlockEntry) → slots.slots ≡ [] → IsSound slots []
IsSound-first slots empty = record {
  lists = λ s first is. absurd (none-some first is);
  complete = λ x s t is. absurd (none-some t (sym (nothing x s) ∙ is));
  once = λ x b is. absurd (none-some b (sym (ap (λ l. get_or (map (option_map entry_view) l) x None) empty) ∙ is));
}
  where
    nothing : (x s : ℕ) → triplet_at slots x s ≡ None
    nothing x s = ap (λ l. read s (get_or l x None)) empty

module _ (old new : Slab BlockEntry) (key : ℕ) (e : BlockEntry) (empty : old.slots ≡ []) (up : Updates old new key (Some e)) (no_replicas : e.triplets.items ≡ []) where
  nothing_there : get old key ≡ None
  nothing_there = ap (λ l. get_or l key None) empty

  pub first_blocks : (slot : ℕ) → slot ≢ key → get_or (slot_views new) slot None ≡ None
  first_blocks slot differs = seen-inserted_other old new key e nothing_there up no_replicas slot differs ∙ ap (λ l. get_or (map (option_map entry_view) l) slot None) empty

  pub IsArena-first : (ids : List (ℕ × ℕ)) (heads : List (ℕ × Option ℕ)) → ids ≡ [] → heads ≡ [] → key < end_of_links → IsArena new ids heads key
  unfolding IsDistinct
  IsArena-first ids heads no_ids no_heads below =
      rw (no_ids, no_heads) (record {
        sound = IsSound-inserted old new key e nothing_there up no_replicas [] (IsSound-first old empty);
        unique = tt;
        numbers = record {
          there = λ id slot is. absurd (none-some slot is);
          known = λ slot b is differs. absurd (none-some b (sym (first_blocks slot differs) ∙ is));
          marker = (entry_view e, seen-inserted_here old new key e nothing_there up no_replicas, omega arith);
          each = tt;
          small = λ slot b is.
              elim (cases_eq slot key) [
                | inl same ↦ rw same below
                | inr apart ↦ absurd (none-some b (sym (first_blocks slot apart) ∙ is))
              ];
        };
      })

-- the invariant and the view after `add_entry`, from the contracts of its calls: the slab got
-- capacity, the number was listed with the slot, and the entry was inserted there
module _ (slots mid new : Slab BlockEntry) (capacity key slot : ℕ) (e : BlockEntry) (ids entries : List (ℕ × ℕ)) (heads : List (ℕ × Option ℕ)) (delimiter : ℕ)
    (grown : mid ≡ record slots { capacity = capacity }) (key_is : key ≡ mid.vacant_key) (slot_is : slot ≡ mid.vacant_key)
    (vacant : get mid key ≡ None) (up : Updates mid new key (Some e)) (no_replicas : e.triplets.items ≡ [])
    (absent : None ≡ lookup (nat_eq e.id) ids) (entries_are : entries ≡ ids ++ (e.id, slot) ∷ []) (each : IsDistinct nat_eq (keys_of entries)) (below : slot < end_of_links) (arena : IsArena slots ids heads delimiter) where
  same_key : key ≡ slot
  same_key = key_is ∙ sym slot_is

  mid_arena : IsArena mid ids heads delimiter
  mid_arena = IsArena-capacity slots mid capacity ids heads delimiter grown arena

  key_below : key < end_of_links
  key_below = rw same_key below

  each_listed : IsDistinct nat_eq (keys_of (ids ++ (e.id, key) ∷ []))
  each_listed = rw (same_key, ← entries_are) each

  pub add_entry-arena : IsArena new entries heads delimiter
  add_entry-arena = rw (entries_are, ← same_key) (IsArena-added mid new key e vacant up no_replicas ids heads delimiter mid_arena (sym absent) key_below each_listed)

  pub add_entry-added : (steps bound above : ℕ) → above ≡ max bound (slot + 1) → e.info ≡ None → e.triplets.capacity ≡ INLINE_TRIPLETS
      → IsAdded
      (record { blocks = slot_views slots; ids = ids; lists = lists_from slots heads; delimiter = delimiter; steps = steps; bound = bound })
      (record { blocks = slot_views new; ids = entries; lists = lists_from new heads; delimiter = delimiter; steps = steps; bound = above })
      e.id slot
  add_entry-added steps bound above above_is no_info three =
      let added = IsAdded-view mid new key e vacant up no_replicas ids heads delimiter mid_arena (sym absent) key_below steps bound no_info three in
      rw (entries_are, above_is, ← same_key) (rw grown at added)
