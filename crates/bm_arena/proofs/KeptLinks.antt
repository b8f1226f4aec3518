-- If a change keeps all triplets with their links, an arena keeps its lists and its invariant.
use Rattle.std.proofs.Common.{◌≡◌, ℕ, ◌≤◌, List, [], ◌∷◌, map, length, get_or, eqb, Option, Some, None, refl, subst, inl, inr, sym, ap, ◌∙◌, arith}
use Rattle.std.specs.Option.{option_map}
use Rattle.std.specs.Map.{lookup, keys_of}
use Rattle.std.specs.List.{IsDistinct}
use Rattle.std.specs.Prelude.{nat_eq}
use Rattle.std.proofs.lemmas.Bool.{cases_eq, cases_Bool}
use Rattle.std.proofs.lemmas.Option.{none-some, same_Some}
use Rattle.std.proofs.lemmas.List.{get_or-set_other}
use Rattle.slab.specs.Slab.{Slab, get}
use Rattle.bm_arena.specs.declared.arena.BlockEntry.{BlockEntry}
use Rattle.bm_arena.specs.declared.arena.Triplet.{Triplet}
use Rattle.bm_base.specs.declared.replica.Marks.{Marks}
use Rattle.bm_base.specs.declared.replica.BlockInfo.{BlockInfo}
use Rattle.bm_arena.specs.Contents.{with_info, with_entry_capacity, with_marks, change_marks}
use Rattle.bm_arena.specs.Triplets.{with_capacity, with_triplet_marks, triplet_view, Block, find_triplet, triplet_at, links_of, slot_views, entry_view, at_slot, change_block, change_at, change_triplet, with_triplets}
use Rattle.bm_maps.specs.SlotLists.{Distinct}
use Rattle.bm_arena.specs.Lists.{Chain, IsList}
use Rattle.bm_arena.specs.Inside.{list_from, lists_from, storages_of, IsSound, IsArena}
use Rattle.bm_arena.proofs.Triplets.{find_triplet-change_same, find_triplet-change_other, read, get-at_slot, get_or-set_here, triplet_at-elsewhere, seen-at_slot}
use Rattle.bm_arena.proofs.SoundLinks.{list_from-list}
use Rattle.bm_arena.proofs.EntryViews.{some_inside, entry_seen}
use Rattle.bm_arena.proofs.ListCalls.{AreIds-change}
use Rattle.bm_arena.proofs.Entries.{lists_from-same}

-- the triplet still exists, with the same links
abbrev pub KeepsLinks : Triplet → Option Triplet → Type 0
KeepsLinks t new = (u : Triplet) × (new ≡ Some u) × (u.previous ≡ t.previous) × (u.next ≡ t.next)

Chain-relinked : (links new : ℕ → Option Triplet) → ((x : ℕ) (t : Triplet) → links x ≡ Some t → KeepsLinks t (new x)) → (before start : Option ℕ) (xs : List ℕ) → Chain links before start xs → Chain new before start xs
Chain-relinked links new keep before start [] chain = chain
Chain-relinked links new keep before start (x ∷ xs) chain =
    let u = keep x chain.1 chain.2 in
    (chain.0, u.0, u.1, u.2 ∙ chain.3, (let P : Option ℕ → Type 0 = λ s. Chain new (Some x) s xs in subst P (sym u.3) (Chain-relinked links new keep (Some x) chain.1.next xs chain.4)))

module _ (old new : Slab BlockEntry)
    (keep : (s x : ℕ) (t : Triplet) → triplet_at old x s ≡ Some t → KeepsLinks t (triplet_at new x s))
    (back : (s x : ℕ) (u : Triplet) → triplet_at new x s ≡ Some u → (t : Triplet) × (triplet_at old x s ≡ Some t)) where
  list_relinked : (s : ℕ) (first : Option ℕ) (xs : List ℕ) → IsList (links_of old s) first xs → IsList (links_of new s) first xs
  list_relinked s first xs list = record { chain = Chain-relinked (links_of old s) (links_of new s) (keep s) None first xs list.chain; distinct = list.distinct }

  module _ (heads : List (ℕ × Option ℕ)) (sound : IsSound old heads) where
    same_list : (s : ℕ) (first : Option ℕ) → lookup (nat_eq s) heads ≡ Some first → list_from new s first ≡ list_from old s first
    same_list s first is = list_from-list new s first (list_from old s first) (list_relinked s first (list_from old s first) (sound.lists s first is))

    pub lists_from-relinked : IsDistinct nat_eq (keys_of heads) → lists_from new heads ≡ lists_from old heads
    lists_from-relinked distinct = lists_from-same old new heads distinct same_list

    pub IsSound-relinked : ((x : ℕ) (b : Block) → get_or (slot_views new) x None ≡ Some b → Distinct (storages_of b)) → IsSound new heads
    IsSound-relinked once = record {
      lists = λ s first is. rw (same_list s first is) (list_relinked s first (list_from old s first) (sound.lists s first is));
      complete = λ x s u is.
          let t = back s x u is in
          let before = sound.complete x s t.0 t.1 in
          (before.0, before.1, rw (same_list s before.0 before.1) before.2);
      once = once;
    }

-- one block changes and keeps the links of its triplets
module _ (g : BlockEntry → BlockEntry) (h : Block → Block) (slots : Slab BlockEntry) (x : ℕ)
    (shows : (e : BlockEntry) → entry_view (g e) ≡ h (entry_view e))
    (same_id : (b : Block) → (h b).id ≡ b.id)
    (grows : (b : Block) → get_or (slot_views slots) x None ≡ Some b → b.capacity ≤ (h b).capacity)
    (same_storages : (b : Block) → storages_of (h b) ≡ storages_of b)
    (keep : (e : BlockEntry) (s : ℕ) (t : Triplet) → find_triplet e.triplets.items s ≡ Some t → KeepsLinks t (find_triplet (g e).triplets.items s))
    (back : (e : BlockEntry) (s : ℕ) (u : Triplet) → find_triplet (g e).triplets.items s ≡ Some u → (t : Triplet) × (find_triplet e.triplets.items s ≡ Some t)) where
  abbrev pub new : Slab BlockEntry
  new = at_slot g slots x

  slot_keep : (s y : ℕ) (t : Triplet) → triplet_at slots y s ≡ Some t → KeepsLinks t (triplet_at new y s)
  slot_keep s y t is =
      elim (cases_eq y x) [
        | inl same ↦ rw (same, ap (read s) (get-at_slot g slots x)) (by (get slots x) (rw same at is))
        | inr differs ↦ (t, triplet_at-elsewhere g slots x y s differs ∙ is, refl, refl)
      ]
    where
      by : (o : Option BlockEntry) → read s o ≡ Some t → KeepsLinks t (read s (option_map g o))
      by None is = absurd (none-some t is)
      by (Some e) is = keep e s t is

  slot_back : (s y : ℕ) (u : Triplet) → triplet_at new y s ≡ Some u → (t : Triplet) × (triplet_at slots y s ≡ Some t)
  slot_back s y u is =
      elim (cases_eq y x) [
        | inl same ↦ rw same (by (get slots x) (sym (ap (read s) (get-at_slot g slots x)) ∙ (rw same at is)))
        | inr differs ↦ (u, sym (triplet_at-elsewhere g slots x y s differs) ∙ is)
      ]
    where
      by : (o : Option BlockEntry) → read s (option_map g o) ≡ Some u → (t : Triplet) × (read s o ≡ Some t)
      by None is = absurd (none-some u is)
      by (Some e) is = back e s u is

  pub seen-relinked : slot_views new ≡ change_block h (slot_views slots) x
  seen-relinked = seen-at_slot g slots x h shows

  module _ (ids : List (ℕ × ℕ)) (heads : List (ℕ × Option ℕ)) (delimiter : ℕ) (arena : IsArena slots ids heads delimiter) where
    still_once : (y : ℕ) (b : Block) → get_or (slot_views new) y None ≡ Some b → Distinct (storages_of b)
    still_once y b is =
        elim (cases_eq y x) [
          | inl same ↦ here (rw (same, seen-relinked) at is)
          | inr differs ↦ arena.sound.once y b (sym (get_or-set_other (slot_views slots) x y _ None differs) ∙ sym (ap (λ bs. get_or bs y None) seen-relinked) ∙ is)
        ]
      where
        here : get_or (change_block h (slot_views slots) x) x None ≡ Some b → Distinct (storages_of b)
        here is = by (get_or (slot_views slots) x None) refl (sym (get_or-set_here (slot_views slots) x (option_map h) refl) ∙ is)
          where
            by : (o : Option Block) → get_or (slot_views slots) x None ≡ o → option_map h o ≡ Some b → Distinct (storages_of b)
            by None at e = absurd (none-some b e)
            by (Some c) at e =
                let P : Block → Type 0 = λ d. Distinct (storages_of d) in
                subst P (same_Some (h c) b e) (rw (same_storages c) (arena.sound.once x c at))

    pub IsArena-relinked : IsArena new ids heads delimiter
    IsArena-relinked = record {
      sound = IsSound-relinked slots new slot_keep slot_back heads arena.sound still_once;
      unique = arena.unique;
      numbers = rw seen-relinked (AreIds-change (slot_views slots) ids delimiter (length heads) x h same_id grows arena.numbers);
    }

    pub lists-relinked : lists_from new heads ≡ lists_from slots heads
    lists-relinked = lists_from-relinked slots new slot_keep slot_back heads arena.sound arena.unique

-- the information on a block changes
module _ (slots new : Slab BlockEntry) (x : ℕ) (info : Option BlockInfo) (is : new ≡ at_slot (λ (e : BlockEntry). record e { info = info }) slots x)
    (ids : List (ℕ × ℕ)) (heads : List (ℕ × Option ℕ)) (delimiter : ℕ) (arena : IsArena slots ids heads delimiter) where
  pub set_info-arena : IsArena new ids heads delimiter
  set_info-arena =
      rw is (IsArena-relinked (λ (e : BlockEntry). record e { info = info }) (with_info info) slots x (λ _. refl) (λ _. refl) (λ _ _. omega arith) (λ _. refl) (λ e s t h. (t, h, refl, refl)) (λ e s u h. (u, h)) ids heads delimiter arena)

  pub set_info-lists : lists_from new heads ≡ lists_from slots heads
  set_info-lists =
      rw is (lists-relinked (λ (e : BlockEntry). record e { info = info }) (with_info info) slots x (λ _. refl) (λ _. refl) (λ _ _. omega arith) (λ _. refl) (λ e s t h. (t, h, refl, refl)) (λ e s u h. (u, h)) ids heads delimiter arena)

  pub set_info-blocks : slot_views new ≡ change_block (with_info info) (slot_views slots) x
  set_info-blocks = rw is (seen-at_slot (λ (e : BlockEntry). record e { info = info }) slots x (with_info info) (λ _. refl))

-- the marks of a replica change
map-change_marks : (ts : List Triplet) (storage : ℕ) (marks : Marks) → map triplet_view (change_triplet (with_triplet_marks marks) ts storage) ≡ change_marks (map triplet_view ts) storage marks
map-change_marks [] storage marks = refl
map-change_marks (t ∷ ts) storage marks =
    elim (cases_Bool (eqb t.storage storage)) [
      | inl here ↦ rw here refl
      | inr other ↦ rw other (ap (λ l. triplet_view t ∷ l) (map-change_marks ts storage marks))
    ]

storages-change_marks : (rs : List (ℕ × Marks)) (storage : ℕ) (marks : Marks) → map (λ (r : ℕ × Marks). r.0) (change_marks rs storage marks) ≡ map (λ (r : ℕ × Marks). r.0) rs
storages-change_marks [] storage marks = refl
storages-change_marks (r ∷ rs) storage marks =
    elim (cases_Bool (eqb r.0 storage)) [
      | inl here ↦ rw here refl
      | inr other ↦ rw other (ap (λ l. r.0 ∷ l) (storages-change_marks rs storage marks))
    ]

module _ (slots new : Slab BlockEntry) (x storage : ℕ) (marks : Marks) (is : new ≡ change_at (with_triplet_marks marks) slots x storage)
    (ids : List (ℕ × ℕ)) (heads : List (ℕ × Option ℕ)) (delimiter : ℕ) (arena : IsArena slots ids heads delimiter) where
  abbrev change : BlockEntry → BlockEntry
  change e = with_triplets e (change_triplet (with_triplet_marks marks) e.triplets.items storage)

  shows_marks : (e : BlockEntry) → entry_view (change e) ≡ with_marks storage marks (entry_view e)
  shows_marks e = ap (λ rs. record { id = e.id; info = e.info; replicas = rs; capacity = e.triplets.capacity }) (map-change_marks e.triplets.items storage marks)

  keep_links : (e : BlockEntry) (s : ℕ) (t : Triplet) → find_triplet e.triplets.items s ≡ Some t → KeepsLinks t (find_triplet (change e).triplets.items s)
  keep_links e s t h =
      elim (cases_eq s storage) [
        | inl same ↦ (
          with_triplet_marks marks t,
          rw same (find_triplet-change_same (with_triplet_marks marks) (λ _. refl) e.triplets.items storage ∙ ap (option_map (with_triplet_marks marks)) (rw same at h)),
          refl,
          refl,
        )
        | inr differs ↦ (t, find_triplet-change_other (with_triplet_marks marks) (λ _. refl) e.triplets.items storage s differs ∙ h, refl, refl)
      ]

  keep_back : (e : BlockEntry) (s : ℕ) (u : Triplet) → find_triplet (change e).triplets.items s ≡ Some u → (t : Triplet) × (find_triplet e.triplets.items s ≡ Some t)
  keep_back e s u h =
      elim (cases_eq s storage) [
        | inl same ↦
            rw same (some_inside (with_triplet_marks marks) (find_triplet e.triplets.items storage) u (sym (find_triplet-change_same (with_triplet_marks marks) (λ _. refl) e.triplets.items storage) ∙ (rw same at h)))
        | inr differs ↦ (u, sym (find_triplet-change_other (with_triplet_marks marks) (λ _. refl) e.triplets.items storage s differs) ∙ h)
      ]

  pub set_marks-arena : IsArena new ids heads delimiter
  set_marks-arena =
      rw is (IsArena-relinked change (with_marks storage marks) slots x shows_marks (λ _. refl) (λ _ _. omega arith) (λ b. storages-change_marks b.replicas storage marks) keep_links keep_back ids heads delimiter arena)

  pub set_marks-lists : lists_from new heads ≡ lists_from slots heads
  set_marks-lists =
      rw is (lists-relinked change (with_marks storage marks) slots x shows_marks (λ _. refl) (λ _ _. omega arith) (λ b. storages-change_marks b.replicas storage marks) keep_links keep_back ids heads delimiter arena)

  pub set_marks-blocks : slot_views new ≡ change_block (with_marks storage marks) (slot_views slots) x
  set_marks-blocks = rw is (seen-at_slot change slots x (with_marks storage marks) shows_marks)

-- a block gets more capacity for triplets
module _ (slots new : Slab BlockEntry) (x capacity : ℕ) (is : new ≡ at_slot (with_capacity capacity) slots x)
    (grows : (e : BlockEntry) → get slots x ≡ Some e → e.triplets.capacity ≤ capacity)
    (ids : List (ℕ × ℕ)) (heads : List (ℕ × Option ℕ)) (delimiter : ℕ) (arena : IsArena slots ids heads delimiter) where
  grows_seen : (b : Block) → get_or (slot_views slots) x None ≡ Some b → b.capacity ≤ capacity
  grows_seen b seen =
      let e = entry_seen slots x b seen in
      let same : e.0.triplets.capacity ≡ b.capacity = ap (λ (c : Block). c.capacity) e.2 in
      omega (arith, grows e.0 e.1, same)

  pub reserved-arena : IsArena new ids heads delimiter
  reserved-arena =
      rw is (IsArena-relinked (with_capacity capacity) (with_entry_capacity capacity) slots x (λ _. refl) (λ _. refl) grows_seen (λ _. refl) (λ e s t h. (t, h, refl, refl)) (λ e s u h. (u, h)) ids heads delimiter arena)

  pub reserved-lists : lists_from new heads ≡ lists_from slots heads
  reserved-lists =
      rw is (lists-relinked (with_capacity capacity) (with_entry_capacity capacity) slots x (λ _. refl) (λ _. refl) grows_seen (λ _. refl) (λ e s t h. (t, h, refl, refl)) (λ e s u h. (u, h)) ids heads delimiter arena)

  pub reserved-blocks : slot_views new ≡ change_block (with_entry_capacity capacity) (slot_views slots) x
  reserved-blocks = rw is (seen-at_slot (with_capacity capacity) slots x (with_entry_capacity capacity) (λ _. refl))
