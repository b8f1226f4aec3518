-- Linking or moving a replica puts it first in its list, unlinking removes it; lists stay sound.
use Rattle.std.proofs.Common.{◌≡◌, ◌≢◌, ℕ, List, [], ◌∷◌, ◌++◌, length, get_or, eqb, Option, Some, None, refl, subst, inl, inr, sym, ap, ◌∙◌}
use Rattle.std.specs.Option.{option_map}
use Rattle.std.specs.Map.{lookup, set_value, keys_of}
use Rattle.std.specs.List.{IsDistinct}
use Rattle.std.specs.Prelude.{nat_eq}
use Rattle.std.proofs.lemmas.Bool.{cases_eq}
use Rattle.std.proofs.lemmas.Option.{none-some, same_Some}
use Rattle.std.proofs.lemmas.List.{map-append}
use Rattle.slab.specs.Slab.{Slab, get}
use Rattle.bm_arena.specs.declared.arena.BlockEntry.{BlockEntry}
use Rattle.bm_arena.specs.declared.arena.Triplet.{Triplet}
use Rattle.bm_base.specs.declared.replica.Marks.{Marks}
use Rattle.bm_arena.specs.Triplets.{Block, find_triplet, triplet_at, links_of, slot_views, entry_view, change_block, added, removed, previous_set, detached, fill_first, is_of, with_triplets, change_at, as_first, first_after}
use Rattle.bm_maps.specs.SlotLists.{IsMember, Distinct, without}
use Rattle.bm_arena.specs.Lists.{IsList}
use Rattle.bm_arena.specs.Contents.{Contents, with_replica, without_replica, linked_front, unlinked, moved_front, saturating_next}
use Rattle.bm_arena.specs.Inside.{list_from, lists_from, storages_of, IsSound}
use Rattle.bm_maps.proofs.SlotLists.{IsMember-without_other, without-gone}
use Rattle.bm_arena.proofs.Lists.{next-apart, previous-apart}
use Rattle.bm_arena.proofs.Triplets.{read, triplet_at-elsewhere, triplet_at-kept, triplet_at-change_same, triplet_at-change_storage, get-at_slot, length-at_slot, length-change, seen-change}
use Rattle.bm_arena.proofs.Replicas.{seen-added, seen-removed, keys, none-absent, found-push_here, found-push_other, found-fill_first_here, found-fill_first_other, Distinct-push, Distinct-fill_first, map-fill_first}
use Rattle.bm_arena.proofs.LinkLaws.{front-storage, front-list, seen-front, length-front, detached-storage, detached-own, detached-list, seen-detached, length-detached}
use Rattle.bm_arena.proofs.SoundLinks.{lists-step, IsSound-step, Chain-member}
use Rattle.bm_arena.proofs.EntryViews.{same_presence, lookup-lists_from, seen_at, storages_seen, once-change}

module _ (slots : Slab BlockEntry) (heads : List (ℕ × Option ℕ)) (first : Option ℕ) (storage : ℕ)
    (sound : IsSound slots heads) (known : lookup (nat_eq storage) heads ≡ Some first) where
  abbrev old_list : List ℕ
  old_list = list_from slots storage first

  is_list : IsList (links_of slots storage) first old_list
  is_list = sound.lists storage first known

  member : (x : ℕ) → IsMember x old_list → (t : Triplet) × (triplet_at slots x storage ≡ Some t)
  member x there = Chain-member (links_of slots storage) None first old_list x is_list.chain there

  in_list : (x : ℕ) (t : Triplet) → triplet_at slots x storage ≡ Some t → IsMember x old_list
  in_list x t is =
      let found = sound.complete x storage t is in
      let same : found.0 ≡ first = same_Some found.0 first (sym found.1 ∙ known) in
      let P : Option ℕ → Type 0 = λ s. IsMember x (list_from slots storage s) in
      subst P same found.2

  -- a replica is added and linked at the head
  module _ (x : ℕ) (marks : Marks) (e : BlockEntry) (there : get slots x ≡ Some e) (absent : find_triplet e.triplets.items storage ≡ None) where
    abbrev t0 : Triplet
    t0 = record { storage = storage; previous = None; next = first; marks = marks }

    abbrev pub linked : Slab BlockEntry
    linked = previous_set (added slots x t0) first storage (Some x)

    no_triplet : triplet_at slots x storage ≡ None
    no_triplet = ap (read storage) there ∙ absent

    added-own : triplet_at (added slots x t0) x storage ≡ Some t0
    added-own = ap (read storage) (get-at_slot _ slots x ∙ ap (option_map (λ (e : BlockEntry). with_triplets e (e.triplets.items ++ t0 ∷ []))) there) ∙ found-push_here e.triplets.items t0 absent

    fresh : IsMember x old_list → ⊥
    fresh inside = let t = member x inside in none-some t.0 (sym no_triplet ∙ t.1)

    linked-others : (other : ℕ) → other ≢ storage → (y : ℕ) → triplet_at linked y other ≡ triplet_at slots y other
    linked-others other differs y =
        front-storage (added slots x t0) first x storage y other differs
        ∙ triplet_at-kept _ slots x y other (λ e _. found-push_other e.triplets.items t0 other (λ s. differs (sym s)))

    linked-len : length linked.slots ≡ length slots.slots
    linked-len = length-front (added slots x t0) first x storage ∙ length-at_slot _ slots x

    pub linked-seen : slot_views linked ≡ change_block (with_replica storage marks) (slot_views slots) x
    linked-seen = seen-front (added slots x t0) first x storage ∙ seen-added slots x t0

    linked-list : IsList (links_of linked storage) (Some x) (x ∷ old_list)
    linked-list =
        front-list (added slots x t0) first x storage (links_of slots storage) t0 old_list added-own refl refl is_list fresh
        (λ y differs. triplet_at-elsewhere _ slots x y storage differs)

    linked-all : (y : ℕ) (t : Triplet) → triplet_at linked y storage ≡ Some t → IsMember y (x ∷ old_list)
    linked-all y t is =
        elim (cases_eq y x) [
          | inl same ↦ inl same
          | inr differs ↦
              let before = same_presence (added slots x t0) linked y storage t (seen-front (added slots x t0) first x storage) is in
              inr (in_list y before.0 (sym (triplet_at-elsewhere _ slots x y storage differs) ∙ before.1))
        ]

    linked-once : (y : ℕ) (b : Block) → get_or (slot_views linked) y None ≡ Some b → Distinct (storages_of b)
    linked-once y b is =
        let b0 = entry_view e in
        let absent_key : IsMember storage (storages_of b0) → ⊥ = rw (storages_seen e) (none-absent e.triplets.items storage absent) in
        let grown : Distinct (storages_of (with_replica storage marks b0)) =
        rw (map-append (λ (r : ℕ × Marks). r.0) b0.replicas ((storage, marks) ∷ [])) (Distinct-push (storages_of b0) storage (sound.once x b0 (seen_at slots x e there)) absent_key) in
        once-change (slot_views slots) x b0 (seen_at slots x e there) (with_replica storage marks) sound.once grown y b
        (sym (ap (λ bs. get_or bs y None) linked-seen) ∙ is)

    pub linked-sound : IsSound linked (set_value (nat_eq storage) heads (Some x))
    linked-sound = IsSound-step slots linked storage (Some x) (x ∷ old_list) linked-others linked-len linked-list heads first sound known linked-all linked-once

    pub linked-view : IsDistinct nat_eq (keys_of heads) → (ids : List (ℕ × ℕ)) (delimiter steps bound : ℕ)
        → ◌≡◌ {A = Contents} (record { ids = ids; delimiter = delimiter; blocks = slot_views linked; lists = lists_from linked (set_value (nat_eq storage) heads (Some x)); steps = saturating_next steps; bound = bound })
        (linked_front (record { ids = ids; delimiter = delimiter; blocks = slot_views slots; lists = lists_from slots heads; steps = steps; bound = bound }) x storage marks)
    linked-view distinct ids delimiter steps bound =
        rw (linked-seen, lists-step slots linked storage (Some x) (x ∷ old_list) linked-others linked-len linked-list heads distinct, lookup-lists_from slots storage heads, known) refl

  -- an existing replica is taken out of its list
  module _ (x : ℕ) (t : Triplet) (e : BlockEntry) (there : get slots x ≡ Some e) (own : triplet_at slots x storage ≡ Some t) where
    abbrev rest : List ℕ
    rest = without x old_list

    inside : IsMember x old_list
    inside = in_list x t own

    absent_from_rest : IsMember x rest → ⊥
    absent_from_rest = without-gone x old_list is_list.distinct

    -- first case: its triplet was removed
    abbrev gone : Slab BlockEntry
    gone = removed slots x storage

    abbrev pub out : Slab BlockEntry
    out = detached gone t storage

    own-once : (e' : BlockEntry) → get slots x ≡ Some e' → Distinct (keys e'.triplets.items)
    own-once e' at = rw (← storages_seen e') (sound.once x (entry_view e') (seen_at slots x e' at))

    out-others : (other : ℕ) → other ≢ storage → (y : ℕ) → triplet_at out y other ≡ triplet_at slots y other
    out-others other differs y =
        detached-storage gone t storage y other differs
        ∙ triplet_at-kept _ slots x y other (λ e' at. found-fill_first_other e'.triplets.items storage other (own-once e' at) differs)

    out-len : length out.slots ≡ length slots.slots
    out-len = length-detached gone t storage ∙ length-at_slot _ slots x

    pub out-seen : slot_views out ≡ change_block (without_replica storage) (slot_views slots) x
    out-seen = seen-detached gone t storage ∙ seen-removed slots x storage

    gone-own : triplet_at gone x storage ≡ None
    gone-own =
        ap (read storage) (get-at_slot _ slots x ∙ ap (option_map (λ (e : BlockEntry). with_triplets e (fill_first (is_of storage) e.triplets.items))) there)
        ∙ found-fill_first_here e.triplets.items storage (own-once e there)

    out-list : IsList (links_of out storage) (first_after first t) rest
    out-list = detached-list gone t storage (links_of slots storage) first x old_list own (λ y differs. triplet_at-elsewhere _ slots x y storage differs) is_list inside

    out-all : (y : ℕ) (u : Triplet) → triplet_at out y storage ≡ Some u → IsMember y rest
    out-all y u is =
        let before = same_presence gone out y storage u (seen-detached gone t storage) is in
        let differs : y ≢ x = λ same. none-some before.0 (sym gone-own ∙ (let P : ℕ → Type 0 = λ w. triplet_at gone w storage ≡ Some before.0 in subst P same before.1)) in
        IsMember-without_other x y old_list (in_list y before.0 (sym (triplet_at-elsewhere _ slots x y storage differs) ∙ before.1)) differs

    out-once : (y : ℕ) (b : Block) → get_or (slot_views out) y None ≡ Some b → Distinct (storages_of b)
    out-once y b is =
        let b0 = entry_view e in
        let fewer : Distinct (storages_of (without_replica storage b0)) =
        rw (map-fill_first (λ (r : ℕ × Marks). r.0) (λ k. eqb k storage) b0.replicas) (Distinct-fill_first (λ k. eqb k storage) (storages_of b0) (sound.once x b0 (seen_at slots x e there))) in
        once-change (slot_views slots) x b0 (seen_at slots x e there) (without_replica storage) sound.once fewer y b
        (sym (ap (λ bs. get_or bs y None) out-seen) ∙ is)

    pub out-sound : IsSound out (set_value (nat_eq storage) heads (first_after first t))
    out-sound = IsSound-step slots out storage (first_after first t) rest out-others out-len out-list heads first sound known out-all out-once

    pub out-view : IsDistinct nat_eq (keys_of heads) → (ids : List (ℕ × ℕ)) (delimiter steps bound : ℕ)
        → ◌≡◌ {A = Contents} (record { ids = ids; delimiter = delimiter; blocks = slot_views out; lists = lists_from out (set_value (nat_eq storage) heads (first_after first t)); steps = saturating_next steps; bound = bound })
        (unlinked (record { ids = ids; delimiter = delimiter; blocks = slot_views slots; lists = lists_from slots heads; steps = steps; bound = bound }) x storage)
    out-view distinct ids delimiter steps bound =
        rw (out-seen, lists-step slots out storage (first_after first t) rest out-others out-len out-list heads distinct, lookup-lists_from slots storage heads, known) refl

    -- second case: its triplet was linked as the first, and its slot put at the head
    abbrev front : Slab BlockEntry
    front = change_at (as_first first) slots x storage

    abbrev apart : Slab BlockEntry
    apart = detached front t storage

    abbrev pub moved : Slab BlockEntry
    moved = previous_set apart (first_after first t) storage (Some x)

    moved-others : (other : ℕ) → other ≢ storage → (y : ℕ) → triplet_at moved y other ≡ triplet_at slots y other
    moved-others other differs y =
        front-storage apart (first_after first t) x storage y other differs
        ∙ detached-storage front t storage y other differs
        ∙ triplet_at-change_storage (as_first first) (λ _. refl) slots x y storage other differs

    moved-len : length moved.slots ≡ length slots.slots
    moved-len =
        length-front apart (first_after first t) x storage ∙ length-detached front t storage ∙ length-change (as_first first) (λ _. refl) slots x storage

    pub moved-seen : slot_views moved ≡ slot_views slots
    moved-seen = seen-front apart (first_after first t) x storage ∙ seen-detached front t storage ∙ seen-change (as_first first) (λ _. refl) slots x storage

    apart-own : triplet_at apart x storage ≡ Some (as_first first t)
    apart-own =
        detached-own front t storage x
        (previous-apart (links_of slots storage) x t own None first old_list is_list.chain is_list.distinct (λ q e h. none-some q e) inside)
        (next-apart (links_of slots storage) x t own None first old_list is_list.chain is_list.distinct inside)
        ∙ triplet_at-change_same (as_first first) (λ _. refl) slots x storage
        ∙ ap (option_map (as_first first)) own

    apart-list : IsList (links_of apart storage) (first_after first t) rest
    apart-list = detached-list front t storage (links_of slots storage) first x old_list own (λ y differs. triplet_at-elsewhere _ slots x y storage differs) is_list inside

    moved-list : IsList (links_of moved storage) (Some x) (x ∷ rest)
    moved-list =
        front-list apart (first_after first t) x storage (links_of apart storage) (as_first first t) rest apart-own refl refl apart-list absent_from_rest (λ y differs. refl)

    moved-all : (y : ℕ) (u : Triplet) → triplet_at moved y storage ≡ Some u → IsMember y (x ∷ rest)
    moved-all y u is =
        elim (cases_eq y x) [
          | inl same ↦ inl same
          | inr differs ↦
              let before = same_presence slots moved y storage u moved-seen is in
              inr (IsMember-without_other x y old_list (in_list y before.0 before.1) differs)
        ]

    pub moved-sound : IsSound moved (set_value (nat_eq storage) heads (Some x))
    moved-sound =
        IsSound-step slots moved storage (Some x) (x ∷ rest) moved-others moved-len moved-list heads first sound known moved-all
        (λ y b is. sound.once y b (ap (λ bs. get_or bs y None) (sym moved-seen) ∙ is))

    pub moved-view : IsDistinct nat_eq (keys_of heads) → (ids : List (ℕ × ℕ)) (delimiter steps bound : ℕ)
        → ◌≡◌ {A = Contents} (record { ids = ids; delimiter = delimiter; blocks = slot_views moved; lists = lists_from moved (set_value (nat_eq storage) heads (Some x)); steps = saturating_next steps; bound = bound })
        (moved_front (record { ids = ids; delimiter = delimiter; blocks = slot_views slots; lists = lists_from slots heads; steps = steps; bound = bound }) x storage)
    moved-view distinct ids delimiter steps bound =
        rw (moved-seen, lists-step slots moved storage (Some x) (x ∷ rest) moved-others moved-len moved-list heads distinct, lookup-lists_from slots storage heads, known) refl
