-- A new head, if the delimiter has capacity for it, keeps the invariant and adds an empty list.
use Rattle.std.proofs.Common.{◌≡◌, ◌≢◌, ℕ, ◌≤◌, ◌+◌, List, [], ◌∷◌, ◌++◌, length, get_or, Bool, Option, Some, None, is_some, IsSome, refl, subst, inl, inr, sym, ap, ◌∙◌, arith}
use Rattle.std.specs.Option.{option_map, option_map_or, option_and_then, unwrap_or}
use Rattle.std.specs.Map.{lookup, keys_of}
use Rattle.std.specs.List.{IsDistinct}
use Rattle.std.specs.Prelude.{nat_eq}
use Rattle.std.proofs.lemmas.Bool.{cases_eq, false≢true}
use Rattle.std.proofs.lemmas.Option.{none-some, same_Some}
use Rattle.std.proofs.lemmas.List.{length-append, get_or-set_other}
use Rattle.slab.specs.Slab.{Slab, get}
use Rattle.bm_arena.specs.declared.arena.BlockEntry.{BlockEntry}
use Rattle.bm_arena.specs.Triplets.{Block, links_of, slot_views, at_slot, with_capacity, capacity_at, change_block}
use Rattle.bm_arena.specs.Lists.{IsList}
use Rattle.bm_arena.specs.Contents.{Contents, IsReserved, with_entry_capacity, find_marks, entry_capacity, block_at}
use Rattle.bm_arena.specs.Inside.{list_from, lists_from, IsArena}
use Rattle.bm_arena.proofs.EntryViews.{lookup-lists_from, marks_in, entry_seen}
use Rattle.bm_arena.proofs.Entries.{lookup-push_before, lookup-push_here, lookup-push_cases}
use Rattle.bm_arena.proofs.ListReads.{walk-nowhere, capacity-seen, reserve-arena, reserve-blocks, reserve-lists}
use Rattle.bm_arena.proofs.Triplets.{get_or-set_here}

pub IsReserved-refl : (a : Contents) → IsReserved a a
IsReserved-refl a = record {
  blocks = λ _ _. refl;
  marker = capacity_itself (block_at a a.delimiter);
  capacity = omega arith;
  marks = λ _ _. refl;
  lists = λ _. refl;
  heads = λ _ h. h;
  ids = refl;
  delimiter = refl;
  steps = refl;
  bound = refl;
}
  where
    capacity_itself : (o : Option Block) → o ≡ option_map (with_entry_capacity (option_map_or (λ (b : Block). b.capacity) o 0)) o
    capacity_itself None = refl
    capacity_itself (Some b) = refl

pub IsReserved-trans : (a b c : Contents) → IsReserved a b → IsReserved b c → IsReserved a c
IsReserved-trans a b c p q = record {
  blocks = λ slot differs. q.blocks slot (λ e. differs (e ∙ p.delimiter)) ∙ p.blocks slot differs;
  marks = λ slot s. q.marks slot s ∙ p.marks slot s;
  lists = λ s. q.lists s ∙ p.lists s;
  heads = λ s h. q.heads s (p.heads s h);
  ids = q.ids ∙ p.ids;
  delimiter = q.delimiter ∙ p.delimiter;
  steps = q.steps ∙ p.steps;
  bound = q.bound ∙ p.bound;
  marker = rw p.delimiter at q.marker ∙ ap (option_map (with_entry_capacity (entry_capacity c a.delimiter))) p.marker ∙ capacity_again (block_at a a.delimiter);
  capacity = let more : entry_capacity b a.delimiter ≤ entry_capacity c a.delimiter = rw p.delimiter at q.capacity in omega (arith, p.capacity, more);
}
  where
    capacity_again : (o : Option Block) → option_map (with_entry_capacity (entry_capacity c a.delimiter)) (option_map (with_entry_capacity (entry_capacity b a.delimiter)) o) ≡ option_map (with_entry_capacity (entry_capacity c a.delimiter)) o
    capacity_again None = refl
    capacity_again (Some b) = refl

-- a storage without a head gets one, of an empty list
module _ (slots : Slab BlockEntry) (ids : List (ℕ × ℕ)) (heads : List (ℕ × Option ℕ)) (delimiter s : ℕ) (arena : IsArena slots ids heads delimiter)
    (absent : lookup (nat_eq s) heads ≡ None) where
  abbrev pub more : List (ℕ × Option ℕ)
  more = heads ++ (s, None) ∷ []

  empty_list : list_from slots s None ≡ []
  empty_list = walk-nowhere (links_of slots s) (length slots.slots)

  nothing_listed : IsList (links_of slots s) None (list_from slots s None)
  nothing_listed = rw empty_list (record { chain = refl; distinct = tt })

  pub head-arena : IsDistinct nat_eq (keys_of more) → ((b : Block) → get_or (slot_views slots) delimiter None ≡ Some b → length heads + 1 ≤ b.capacity) → IsArena slots ids more delimiter
  head-arena unique capacity = record {
    sound = record {
      lists = λ q first is.
          elim (lookup-push_cases q s None first heads is) [
            | inl before ↦ arena.sound.lists q first before
            | inr now ↦
                let P : Option ℕ → Type 0 = λ o. IsList (links_of slots s) o (list_from slots s o) in
                rw now.0 (subst P (sym now.1) nothing_listed)
          ];
      complete = λ x q t is.
          let before = arena.sound.complete x q t is in
          (before.0, lookup-push_before q s None before.0 heads before.1, before.2);
      once = arena.sound.once;
    };
    unique = unique;
    numbers = record {
      there = arena.numbers.there;
      known = arena.numbers.known;
      marker =
          let b = arena.numbers.marker in
          (b.0, b.1, omega (arith, capacity b.0 b.1, length-append heads ((s, None) ∷ [])));
      each = arena.numbers.each;
      small = arena.numbers.small;
    };
  }

  pub head-here : lookup (nat_eq s) (lists_from slots more) ≡ Some (list_from slots s None)
  head-here = lookup-lists_from slots s more ∙ ap (option_map (list_from slots s)) (lookup-push_here s None heads absent)

  pub head-kept : (q : ℕ) → IsSome (lookup (nat_eq q) (lists_from slots heads)) → IsSome (lookup (nat_eq q) (lists_from slots more))
  head-kept q some = rw (lookup-lists_from slots q more) (by (lookup (nat_eq q) heads) refl (rw (lookup-lists_from slots q heads) at some))
    where
      by : (o : Option (Option ℕ)) → lookup (nat_eq q) heads ≡ o → IsSome (option_map (list_from slots q) o) → IsSome (option_map (list_from slots q) (lookup (nat_eq q) more))
      by None is some = absurd (false≢true some)
      by (Some first) is some = rw (lookup-push_before q s None first heads is) refl

  pub list-kept : (q : ℕ) → unwrap_or (lookup (nat_eq q) (lists_from slots more)) [] ≡ unwrap_or (lookup (nat_eq q) (lists_from slots heads)) []
  list-kept q = rw (lookup-lists_from slots q more, lookup-lists_from slots q heads) (by (lookup (nat_eq q) heads) (lookup (nat_eq q) more) refl refl)
    where
      by : (o p : Option (Option ℕ)) → lookup (nat_eq q) heads ≡ o → lookup (nat_eq q) more ≡ p → unwrap_or (option_map (list_from slots q) p) [] ≡ unwrap_or (option_map (list_from slots q) o) []
      by None None old new = refl
      by None (Some first) old new =
          elim (lookup-push_cases q s None first heads new) [
            | inl before ↦ absurd (none-some first (sym old ∙ before))
            | inr now ↦ rw now.1 (walk-nowhere (links_of slots q) (length slots.slots))
          ]
      by (Some first) None old new = absurd (none-some first (sym new ∙ lookup-push_before q s None first heads old))
      by (Some first) (Some start) old new =
          let same : first ≡ start = same_Some first start (sym (lookup-push_before q s None first heads old) ∙ new) in
          ap (list_from slots q) (sym same)

-- a head is seen exactly if there is one
some_map : {A B : Type 0} (f : A → B) (o : Option A) → is_some (option_map f o) ≡ is_some o
some_map f None = refl
some_map f (Some x) = refl

pub head-seen : (slots : Slab BlockEntry) (heads : List (ℕ × Option ℕ)) (s : ℕ) (found : Bool) → found ≡ is_some (lookup (nat_eq s) heads) → found ≡ is_some (lookup (nat_eq s) (lists_from slots heads))
head-seen slots heads s found is = is ∙ sym (ap is_some (lookup-lists_from slots s heads) ∙ some_map (list_from slots s) (lookup (nat_eq s) heads))

marks-change_capacity : (blocks : List (Option Block)) (x capacity y s : ℕ) → marks_in (change_block (with_entry_capacity capacity) blocks x) y s ≡ marks_in blocks y s
marks-change_capacity blocks x capacity y s =
    elim (cases_eq y x) [
      | inl same ↦ rw same (ap (λ o. option_and_then (λ (b : Block). find_marks b.replicas s) o) (get_or-set_here blocks x (option_map (with_entry_capacity capacity)) refl) ∙ by (get_or blocks x None))
      | inr differs ↦ ap (λ o. option_and_then (λ (b : Block). find_marks b.replicas s) o) (get_or-set_other blocks x y _ None differs)
    ]
  where
    by : (o : Option Block) → option_and_then (λ (b : Block). find_marks b.replicas s) (option_map (with_entry_capacity capacity) o) ≡ option_and_then (λ (b : Block). find_marks b.replicas s) o
    by None = refl
    by (Some b) = refl

-- the delimiter gets capacity, and then a storage gets a head
module _ (slots new : Slab BlockEntry) (ids : List (ℕ × ℕ)) (heads : List (ℕ × Option ℕ)) (delimiter : ℕ)
    (is : new ≡ at_slot (with_capacity (capacity_at new delimiter)) slots delimiter) (grows : capacity_at slots delimiter ≤ capacity_at new delimiter)
    (arena : IsArena slots ids heads delimiter) (steps bound : ℕ) where
  abbrev seen_as : Slab BlockEntry → List (ℕ × Option ℕ) → Contents
  seen_as s hs = record { blocks = slot_views s; ids = ids; lists = lists_from s hs; delimiter = delimiter; steps = steps; bound = bound }

  pub enlarged-arena : IsArena new ids heads delimiter
  enlarged-arena = reserve-arena slots new delimiter is grows ids heads delimiter arena

  marker-enlarged : get_or (slot_views new) delimiter None ≡ option_map (with_entry_capacity (option_map_or (λ (b : Block). b.capacity) (get_or (slot_views new) delimiter None) 0)) (get_or (slot_views slots) delimiter None)
  marker-enlarged =
      let blocks = reserve-blocks slots new delimiter is grows ids heads delimiter arena in
      ap (λ bs. get_or bs delimiter None) blocks ∙ get_or-set_here (slot_views slots) delimiter (option_map (with_entry_capacity (capacity_at new delimiter))) refl
      ∙ ap (λ r. option_map (with_entry_capacity r) (get_or (slot_views slots) delimiter None)) (sym (capacity-seen new delimiter))

  pub enlarged-kept : (after : List (ℕ × Option ℕ)) → after ≡ heads → IsReserved (seen_as slots heads) (seen_as new after)
  enlarged-kept after same =
      let lists = reserve-lists slots new delimiter is grows ids heads delimiter arena in
      let blocks = reserve-blocks slots new delimiter is grows ids heads delimiter arena in
      rw same (record {
        blocks = λ slot differs. ap (λ bs. get_or bs slot None) blocks ∙ get_or-set_other (slot_views slots) delimiter slot _ None differs;
        marks = λ slot s. ap (λ bs. marks_in bs slot s) blocks ∙ marks-change_capacity (slot_views slots) delimiter (capacity_at new delimiter) slot s;
        lists = λ s. ap (λ ls. unwrap_or (lookup (nat_eq s) ls) []) lists;
        heads = λ s h. rw lists h;
        ids = refl;
        delimiter = refl;
        steps = refl;
        bound = refl;
        marker = marker-enlarged;
        capacity = rw (capacity-seen slots delimiter, capacity-seen new delimiter) grows;
      })

  pub enlarged-named : (after : List (ℕ × Option ℕ)) → after ≡ heads → (q : ℕ) → IsSome (lookup (nat_eq q) (lists_from new after)) → IsSome (lookup (nat_eq q) (lists_from slots heads))
  enlarged-named after same q some =
      let lists = reserve-lists slots new delimiter is grows ids heads delimiter arena in
      rw (same, lists) at some

  module _ (s : ℕ) (absent : lookup (nat_eq s) heads ≡ None) (after : List (ℕ × Option ℕ)) (after_is : after ≡ heads ++ (s, None) ∷ []) where
    pub headed-arena : IsDistinct nat_eq (keys_of after) → (count additional : ℕ) → count ≡ length heads → additional ≡ count + 1 → ((e : BlockEntry) → get new delimiter ≡ Some e → length e.triplets.items + additional ≤ e.triplets.capacity) → IsArena new ids after delimiter
    headed-arena unique count additional count_is additional_is capacity =
        let unique_more = rw after_is at unique in
        rw after_is (head-arena new ids heads delimiter s enlarged-arena absent unique_more (λ b seen.
        let e = entry_seen new delimiter b seen in
        let fits = capacity e.0 e.1 in
        let same : e.0.triplets.capacity ≡ b.capacity = ap (λ (c : Block). c.capacity) e.2 in
        omega (arith, fits, same, count_is, additional_is)))

    pub headed-here : IsSome (lookup (nat_eq s) (lists_from new after))
    headed-here = rw (after_is, head-here new ids heads delimiter s enlarged-arena absent) refl

    pub headed-kept : IsReserved (seen_as slots heads) (seen_as new after)
    headed-kept =
        rw after_is (IsReserved-trans (seen_as slots heads) (seen_as new heads) (seen_as new (heads ++ (s, None) ∷ [])) (enlarged-kept heads refl) (record {
          blocks = λ _ _. refl;
          marks = λ _ _. refl;
          lists = λ q. list-kept new ids heads delimiter s enlarged-arena absent q;
          heads = λ q h. head-kept new ids heads delimiter s enlarged-arena absent q h;
          ids = refl;
          delimiter = refl;
          steps = refl;
          bound = refl;
          marker = (IsReserved-refl (seen_as new heads)).marker;
          capacity = omega arith;
        }))

    -- no other storage got a head
    pub headed-named : (q : ℕ) → q ≢ s → IsSome (lookup (nat_eq q) (lists_from new after)) → IsSome (lookup (nat_eq q) (lists_from slots heads))
    headed-named q differs some =
        let seen = rw (after_is, lookup-lists_from new q (heads ++ (s, None) ∷ [])) at some in
        rw (lookup-lists_from slots q heads) (by (lookup (nat_eq q) heads) (lookup (nat_eq q) (heads ++ (s, None) ∷ [])) refl refl seen)
      where
        by : (o p : Option (Option ℕ)) → lookup (nat_eq q) heads ≡ o → lookup (nat_eq q) (heads ++ (s, None) ∷ []) ≡ p → IsSome (option_map (list_from new q) p) → IsSome (option_map (list_from slots q) (lookup (nat_eq q) heads))
        by (Some first) p is _ _ = rw is refl
        by None None is _ there = absurd (false≢true there)
        by None (Some first) is push _ =
            elim (lookup-push_cases q s None first heads push) [
              | inl before ↦ absurd (none-some first (sym is ∙ before))
              | inr now ↦ absurd (differs now.0)
            ]
