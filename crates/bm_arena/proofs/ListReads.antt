-- A walk visits the slots of a list, and reserving capacity keeps an arena's invariant and lists.
use Rattle.std.proofs.Common.{◌≡◌, ℕ, zero, suc, ◌<◌, ◌≤◌, ◌+◌, map, List, [], ◌∷◌, length, get_or, eqb, Bool, true, false, not, is_some, Option, Some, None, IsSome, IsSomeAnd, refl, subst, inl, inr, sym, ap, ◌∙◌, arith}
use Rattle.std.specs.Option.{option_map, option_and_then, option_map_or, unwrap_or}
use Rattle.std.specs.Map.{lookup, keys_of}
use Rattle.std.specs.Prelude.{nat_eq}
use Rattle.std.proofs.lemmas.Bool.{cases_Bool, eqb-true, false≢true}
use Rattle.std.proofs.lemmas.Option.{none-some, slice_get-map}
use Rattle.std.specs.Prelude.{slice_get}
use Rattle.std.proofs.lemmas.List.{length-map}
use Rattle.std.proofs.Math.ListN.{get_or-map}
use Rattle.slab.specs.Slab.{Slab, get}
use Rattle.bm_arena.specs.declared.arena.BlockEntry.{BlockEntry}
use Rattle.bm_arena.specs.declared.arena.Triplet.{Triplet}
use Rattle.bm_base.specs.declared.replica.Marks.{Marks}
use Rattle.bm_arena.specs.Triplets.{Block, find_triplet, triplet_at, links_of, slot_views, entry_view, triplet_view, at_slot, with_capacity, capacity_at, change_block}
use Rattle.bm_maps.specs.SlotLists.{IsMember, Distinct, without}
use Rattle.bm_arena.specs.Lists.{walk, Chain}
use Rattle.bm_arena.specs.Contents.{Contents, with_entry_capacity, entry_capacity}
use Rattle.bm_arena.specs.Inside.{list_from, lists_from, storages_of, IsSound, IsArena}
use Rattle.bm_maps.proofs.SlotLists.{length-distinct_below, length-without, IsMember-without_other}
use Rattle.bm_arena.proofs.Lists.{walk-chain}
use Rattle.bm_arena.proofs.Triplets.{read}
use Rattle.bm_arena.proofs.Replicas.{keys, none-absent}
use Rattle.bm_arena.proofs.SoundLinks.{Chain-member, triplet_at_within}
use Rattle.bm_arena.proofs.EntryViews.{lookup-lists_from, marks_in, marks_of, marks-seen, none_inside, entry_seen, seen_at, storages_seen}
use Rattle.bm_arena.proofs.KeptLinks.{reserved-arena, reserved-lists, reserved-blocks}

pub walk-listed : (slots : Slab BlockEntry) (heads : List (ℕ × Option ℕ)) (storage left : ℕ) (first : Option ℕ) → IsSound slots heads → length slots.slots ≤ left → Some first ≡ lookup (nat_eq storage) heads → walk (links_of slots storage) left first ≡ unwrap_or (lookup (nat_eq storage) (lists_from slots heads)) []
walk-listed slots heads storage left first sound capacity known =
    let list = sound.lists storage first (sym known) in
    let short : length (list_from slots storage first) ≤ length slots.slots =
    length-distinct_below (length slots.slots) (list_from slots storage first) list.distinct (λ x there.
    let t = Chain-member (links_of slots storage) None first (list_from slots storage first) x list.chain there in
    triplet_at_within slots x storage t.0 t.1) in
    rw (lookup-lists_from slots storage heads, ← known) (walk-chain (links_of slots storage) None first (list_from slots storage first) left list.chain (omega (arith, short, capacity)))

pub walk-nowhere : (links : ℕ → Option Triplet) (n : ℕ) → walk links n None ≡ []
walk-nowhere links zero = refl
walk-nowhere links (suc n) = refl

pub walk-headless : (slots : Slab BlockEntry) (heads : List (ℕ × Option ℕ)) (storage left : ℕ) (first : Option ℕ) → None ≡ lookup (nat_eq storage) heads → first ≡ None → walk (links_of slots storage) left first ≡ unwrap_or (lookup (nat_eq storage) (lists_from slots heads)) []
walk-headless slots heads storage left first none start =
    rw (lookup-lists_from slots storage heads, ← none, start) (walk-nowhere (links_of slots storage) left)

-- the capacity that is seen is that of the entry
pub capacity-seen : (slots : Slab BlockEntry) (x : ℕ) → option_map_or (λ (b : Block). b.capacity) (get_or (slot_views slots) x None) 0 ≡ capacity_at slots x
capacity-seen slots x = ap (λ o. option_map_or (λ (b : Block). b.capacity) o 0) (get_or-map (option_map entry_view) slots.slots x None) ∙ by (get slots x)
  where
    by : (o : Option BlockEntry) → option_map_or (λ (b : Block). b.capacity) (option_map entry_view o) 0 ≡ option_map_or (λ (e : BlockEntry). e.triplets.capacity) o 0
    by None = refl
    by (Some e) = refl

module _ (slots new : Slab BlockEntry) (x : ℕ) (is : new ≡ at_slot (with_capacity (capacity_at new x)) slots x) (grows : capacity_at slots x ≤ capacity_at new x)
    (ids : List (ℕ × ℕ)) (heads : List (ℕ × Option ℕ)) (delimiter : ℕ) (arena : IsArena slots ids heads delimiter) where
  grows_entry : (e : BlockEntry) → get slots x ≡ Some e → e.triplets.capacity ≤ capacity_at new x
  grows_entry e there =
      let was : capacity_at slots x ≡ e.triplets.capacity = ap (λ o. option_map_or (λ (d : BlockEntry). d.triplets.capacity) o 0) there in
      omega (arith, grows, was)

  pub reserve-arena : IsArena new ids heads delimiter
  reserve-arena = reserved-arena slots new x (capacity_at new x) is grows_entry ids heads delimiter arena

  pub reserve-blocks : slot_views new ≡ change_block (with_entry_capacity (capacity_at new x)) (slot_views slots) x
  reserve-blocks = reserved-blocks slots new x (capacity_at new x) is grows_entry ids heads delimiter arena

  pub reserve-lists : lists_from new heads ≡ lists_from slots heads
  reserve-lists = reserved-lists slots new x (capacity_at new x) is grows_entry ids heads delimiter arena

  pub reserve-view : (steps bound : ℕ) →
      let after : Contents = record { blocks = slot_views new; ids = ids; lists = lists_from new heads; delimiter = delimiter; steps = steps; bound = bound } in
      let before : Contents = record { blocks = slot_views slots; ids = ids; lists = lists_from slots heads; delimiter = delimiter; steps = steps; bound = bound } in
      after ≡ record before { blocks = change_block (with_entry_capacity (entry_capacity after x)) before.blocks x }
  reserve-view steps bound =
      let same : slot_views new ≡ change_block (with_entry_capacity (entry_capacity (record { blocks = slot_views new; ids = ids; lists = lists_from new heads; delimiter = delimiter; steps = steps; bound = bound }) x)) (slot_views slots) x =
      reserve-blocks ∙ ap (λ r. change_block (with_entry_capacity r) (slot_views slots) x) (sym (capacity-seen new x)) in
      ap2 same reserve-lists
    where
      ap2 : {bs cs : List (Option Block)} {ls ms : List (ℕ × List ℕ)} → bs ≡ cs → ls ≡ ms
          → ◌≡◌ {A = Contents} (record { blocks = bs; ids = ids; lists = ls; delimiter = delimiter; steps = steps; bound = bound }) (record { blocks = cs; ids = ids; lists = ms; delimiter = delimiter; steps = steps; bound = bound })
      ap2 p q = rw (p, q) refl

-- distinct members of a list are no more than the list has
length-subset : (xs ys : List ℕ) → Distinct xs → ((x : ℕ) → IsMember x xs → IsMember x ys) → length xs ≤ length ys
length-subset [] ys distinct inside = omega arith
length-subset (x ∷ xs) ys distinct inside =
    let fewer : length xs ≤ length (without x ys) =
    length-subset xs (without x ys) distinct.1 (λ z h.
    IsMember-without_other x z ys (inside z (inr h)) (λ e. distinct.0 (let P : ℕ → Type 0 = λ w. IsMember w xs in subst P e h))) in
    omega (arith, fewer, length-without x ys (inside x (inl refl)))

lookup-among : (s : ℕ) (v : Option ℕ) (es : List (ℕ × Option ℕ)) → lookup (nat_eq s) es ≡ Some v → IsMember s (keys_of es)
lookup-among s v [] is = absurd (none-some v is)
lookup-among s v (e ∷ es) is =
    elim (cases_Bool (eqb s e.0)) [
      | inl here ↦ inl (eqb-true s e.0 here)
      | inr other ↦ inr (lookup-among s v es (rw other at is))
    ]

key-found : (ts : List Triplet) (s : ℕ) → IsMember s (keys ts) → (t : Triplet) × (find_triplet ts s ≡ Some t)
key-found ts s there = by (find_triplet ts s) refl
  where
    by : (o : Option Triplet) → find_triplet ts s ≡ o → (t : Triplet) × (find_triplet ts s ≡ Some t)
    by None is = absurd (none-absent ts s is there)
    by (Some t) is = (t, is)

head-found : (slots : Slab BlockEntry) (heads : List (ℕ × Option ℕ)) (s : ℕ) → IsSome (lookup (nat_eq s) (lists_from slots heads)) → (first : Option ℕ) × (lookup (nat_eq s) heads ≡ Some first)
head-found slots heads s some = by (lookup (nat_eq s) heads) refl
  where
    by : (o : Option (Option ℕ)) → lookup (nat_eq s) heads ≡ o → (first : Option ℕ) × (lookup (nat_eq s) heads ≡ Some first)
    by None is =
        let P : Option (List ℕ) → Type 0 = λ o. IsSome o in
        absurd (false≢true (subst P (lookup-lists_from slots s heads ∙ ap (option_map (list_from slots s)) is) some))
    by (Some first) is = (first, is)

-- the delimiter has capacity for the list of each head
pub delimiter-capacity : (slots : Slab BlockEntry) (ids : List (ℕ × ℕ)) (heads : List (ℕ × Option ℕ)) (delimiter : ℕ) → IsArena slots ids heads delimiter → (s : ℕ)
    → IsSome (lookup (nat_eq s) (lists_from slots heads)) → marks_in (slot_views slots) delimiter s ≡ None
    → IsSomeAnd (get_or (slot_views slots) delimiter None) (λ (b : Block). length b.replicas < b.capacity)
delimiter-capacity slots ids heads delimiter arena s some absent =
    let marker = arena.numbers.marker in
    let b = marker.0 in
    let e = entry_seen slots delimiter b marker.1 in
    let ts = e.0.triplets.items in
    let gone : triplet_at slots delimiter s ≡ None = none_inside marks_of (triplet_at slots delimiter s) (sym (marks-seen slots delimiter s) ∙ absent) in
    let not_found : find_triplet ts s ≡ None = sym (ap (read s) e.1) ∙ gone in
    let storages : storages_of b ≡ keys ts = ap storages_of (sym e.2) ∙ storages_seen e.0 in
    let once : Distinct (keys ts) = rw storages at (arena.sound.once delimiter b marker.1) in
    let head = head-found slots heads s some in
    let few : length (s ∷ keys ts) ≤ length (keys_of heads) =
    length-subset (s ∷ keys ts) (keys_of heads) (none-absent ts s not_found, once) (λ k h. elim h [
      | inl same ↦ let P : ℕ → Type 0 = λ w. IsMember w (keys_of heads) in subst P (sym same) (lookup-among s head.0 heads head.1)
      | inr there ↦
          let t = key-found ts k there in
          let listed = arena.sound.complete delimiter k t.0 (ap (read k) e.1 ∙ t.1) in
          lookup-among k listed.0 heads listed.1
    ]) in
    let count : length b.replicas ≡ length (keys ts) = sym (length-map b.replicas (λ (r : ℕ × Marks). r.0)) ∙ ap length storages in
    let heads_count : length (keys_of heads) ≡ length heads = length-map heads (λ (h : ℕ × Option ℕ). h.0) in
    let fits : length b.replicas < b.capacity = omega (arith, few, count, heads_count, marker.2) in
    rw marker.1 fits

-- the replica at an index is the triplet there
pub replica-seen : (slots : Slab BlockEntry) (x i : ℕ) → option_and_then (λ (e : BlockEntry). option_map triplet_view (slice_get e.triplets.items i)) (get slots x) ≡ option_and_then (λ (b : Block). slice_get b.replicas i) (get_or (slot_views slots) x None)
replica-seen slots x i = by (get slots x) ∙ sym (ap (λ o. option_and_then (λ (b : Block). slice_get b.replicas i) o) (get_or-map (option_map entry_view) slots.slots x None))
  where
    by : (o : Option BlockEntry) → option_and_then (λ (e : BlockEntry). option_map triplet_view (slice_get e.triplets.items i)) o ≡ option_and_then (λ (b : Block). slice_get b.replicas i) (option_map entry_view o)
    by None = refl
    by (Some e) = sym (slice_get-map triplet_view e.triplets.items i)

-- a list is empty exactly if its head leads nowhere
start-empty : (links : ℕ → Option Triplet) (start : Option ℕ) (xs : List ℕ) → Chain links None start xs → (start ≡ None → xs ≡ []) × (xs ≡ [] → start ≡ None)
start-empty links start [] chain = (λ _. refl, λ _. chain)
start-empty links start (x ∷ xs) chain = (λ none. absurd (none-some x (sym none ∙ chain.0)), λ empty. absurd (cc))

answer-none : (o : Option ℕ) (answer : Bool) → is_some o ≡ not answer → (answer ≡ true → o ≡ None) × (o ≡ None → answer ≡ true)
answer-none None true is = (λ _. refl, λ _. refl)
answer-none None false is = absurd (false≢true is)
answer-none (Some x) true is = absurd (false≢true (sym is))
answer-none (Some x) false is = (λ yes. absurd (false≢true yes), λ none. absurd (none-some x (sym none)))

pub empty-headed : (slots : Slab BlockEntry) (heads : List (ℕ × Option ℕ)) (s : ℕ) (first found : Option ℕ) (answer : Bool) → IsSound slots heads → Some first ≡ lookup (nat_eq s) heads → found ≡ first → is_some found ≡ not answer
    → (answer ≡ true → unwrap_or (lookup (nat_eq s) (lists_from slots heads)) [] ≡ []) × (unwrap_or (lookup (nat_eq s) (lists_from slots heads)) [] ≡ [] → answer ≡ true)
empty-headed slots heads s first found answer sound known same is =
    let both = start-empty (links_of slots s) first (list_from slots s first) (sound.lists s first (sym known)).chain in
    let test = answer-none first answer (ap is_some (sym same) ∙ is) in
    rw (lookup-lists_from slots s heads, ← known) (λ yes. both.0 (test.0 yes), λ empty. test.1 (both.1 empty))

pub empty-headless : (slots : Slab BlockEntry) (heads : List (ℕ × Option ℕ)) (s : ℕ) → None ≡ lookup (nat_eq s) heads → unwrap_or (lookup (nat_eq s) (lists_from slots heads)) [] ≡ []
empty-headless slots heads s none = rw (lookup-lists_from slots s heads, ← none) refl

-- a block that is seen with free capacity has an entry with it
pub capacity-entry : (slots : Slab BlockEntry) (x : ℕ) → IsSomeAnd (get_or (slot_views slots) x None) (λ (b : Block). length b.replicas < b.capacity) → (e : BlockEntry) → get slots x ≡ Some e → length e.triplets.items + 1 ≤ e.triplets.capacity
capacity-entry slots x capacity e at =
    let P : Option Block → Type 0 = λ o. IsSomeAnd o (λ (b : Block). length b.replicas < b.capacity) in
    let fits : length (map triplet_view e.triplets.items) < e.triplets.capacity = subst P (seen_at slots x e at) capacity in
    omega (arith, fits, length-map e.triplets.items triplet_view)
