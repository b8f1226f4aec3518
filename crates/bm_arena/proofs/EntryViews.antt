-- The marks, blocks and storages that contracts see of a slab are those of its entries.
use Rattle.std.proofs.Common.{◌≡◌, ℕ, zero, suc, List, [], ◌∷◌, map, get_or, eqb, Option, Some, None, refl, subst, inl, inr, sym, ap, ◌∙◌}
use Rattle.std.specs.Option.{option_map, option_and_then}
use Rattle.std.specs.Map.{lookup}
use Rattle.std.specs.Prelude.{nat_eq}
use Rattle.std.proofs.lemmas.Bool.{cases_eq, cases_Bool, eqb-true}
use Rattle.std.proofs.lemmas.Option.{none-some, same_Some}
use Rattle.std.proofs.lemmas.List.{get_or-set_other}
use Rattle.std.proofs.Math.ListN.{get_or-map}
use Rattle.slab.specs.Slab.{Slab, get}
use Rattle.bm_arena.specs.declared.arena.BlockEntry.{BlockEntry}
use Rattle.bm_arena.specs.declared.arena.Triplet.{Triplet}
use Rattle.bm_base.specs.declared.replica.Marks.{Marks}
use Rattle.bm_arena.specs.Triplets.{Block, triplet_at, slot_views, entry_view, triplet_view, change_block}
use Rattle.bm_maps.specs.SlotLists.{Distinct}
use Rattle.bm_arena.specs.Contents.{find_marks}
use Rattle.bm_arena.specs.Inside.{list_from, lists_from, storages_of}
use Rattle.bm_arena.proofs.Triplets.{read, get_or-set_here}
use Rattle.bm_arena.proofs.Replicas.{keys, find_marks-seen}

-- the marks that are seen at a slot
abbrev pub marks_in : List (Option Block) → ℕ → ℕ → Option Marks
marks_in blocks x storage = option_and_then (λ (b : Block). find_marks b.replicas storage) (get_or blocks x None)

abbrev pub marks_of : Triplet → Marks
marks_of t = t.marks

pub some_inside : {A B : Type 0} (f : A → B) (o : Option A) (y : B) → option_map f o ≡ Some y → (x : A) × (o ≡ Some x)
some_inside f None y is = absurd (none-some y is)
some_inside f (Some x) y is = (x, refl)

pub none_inside : {A B : Type 0} (f : A → B) (o : Option A) → option_map f o ≡ None → o ≡ None
none_inside f None is = refl
none_inside f (Some x) is = absurd (none-some (f x) (sym is))

pub marks-seen : (slots : Slab BlockEntry) (x storage : ℕ) → marks_in (slot_views slots) x storage ≡ option_map marks_of (triplet_at slots x storage)
marks-seen slots x storage = by slots.slots x
  where
    seen : (o : Option BlockEntry) → option_and_then (λ (b : Block). find_marks b.replicas storage) (option_map entry_view o) ≡ option_map marks_of (read storage o)
    seen None = refl
    seen (Some e) = find_marks-seen e.triplets.items storage

    by : (es : List (Option BlockEntry)) (x : ℕ) → marks_in (map (option_map entry_view) es) x storage ≡ option_map marks_of (read storage (get_or es x None))
    by [] x = refl
    by (o ∷ os) zero = seen o
    by (o ∷ os) (suc x) = by os x

-- slabs that are seen alike have the same triplets
pub same_presence : (slots new : Slab BlockEntry) (x storage : ℕ) (t : Triplet) → slot_views new ≡ slot_views slots → triplet_at new x storage ≡ Some t → (u : Triplet) × (triplet_at slots x storage ≡ Some u)
same_presence slots new x storage t same is =
    some_inside marks_of (triplet_at slots x storage) t.marks
    (sym (marks-seen slots x storage) ∙ ap (λ bs. marks_in bs x storage) (sym same) ∙ marks-seen new x storage ∙ ap (option_map marks_of) is)

pub lookup-lists_from : (slots : Slab BlockEntry) (storage : ℕ) (es : List (ℕ × Option ℕ)) → lookup (nat_eq storage) (lists_from slots es) ≡ option_map (list_from slots storage) (lookup (nat_eq storage) es)
lookup-lists_from slots storage [] = refl
lookup-lists_from slots storage (e ∷ es) =
    elim (cases_Bool (eqb storage e.0)) [
      | inl here ↦
          let P : ℕ → Type 0 = λ s. ◌≡◌ {A = Option (List ℕ)} (Some (list_from slots s e.1)) (Some (list_from slots storage e.1)) in
          rw here (subst P (eqb-true storage e.0 here) refl)
      | inr other ↦ rw other (lookup-lists_from slots storage es)
    ]

-- the entry of a block that is seen
pub entry_seen : (slots : Slab BlockEntry) (x : ℕ) (b : Block) → get_or (slot_views slots) x None ≡ Some b → (e : BlockEntry) × (get slots x ≡ Some e) × (entry_view e ≡ b)
entry_seen slots x b is = by (get slots x) refl (sym (get_or-map (option_map entry_view) slots.slots x None) ∙ is)
  where
    by : (o : Option BlockEntry) → get slots x ≡ o → option_map entry_view o ≡ Some b → (e : BlockEntry) × (get slots x ≡ Some e) × (entry_view e ≡ b)
    by None at seen = absurd (none-some b seen)
    by (Some e) at seen = (e, at, same_Some (entry_view e) b seen)

pub seen_at : (slots : Slab BlockEntry) (x : ℕ) (e : BlockEntry) → get slots x ≡ Some e → get_or (slot_views slots) x None ≡ Some (entry_view e)
seen_at slots x e there = get_or-map (option_map entry_view) slots.slots x None ∙ ap (option_map entry_view) there

-- the storages that are seen are those of the triplets
pub storages_seen : (e : BlockEntry) → storages_of (entry_view e) ≡ keys e.triplets.items
storages_seen e = by e.triplets.items
  where
    by : (ts : List Triplet) → map (λ (r : ℕ × Marks). r.0) (map triplet_view ts) ≡ keys ts
    by [] = refl
    by (t ∷ ts) = ap (λ ks. t.storage ∷ ks) (by ts)

-- the blocks after one of them changed
module _ (blocks : List (Option Block)) (x : ℕ) (b : Block) (there : get_or blocks x None ≡ Some b) where
  pub once-change : (h : Block → Block) → ((y : ℕ) (c : Block) → get_or blocks y None ≡ Some c → Distinct (storages_of c)) → Distinct (storages_of (h b))
      → (y : ℕ) (c : Block) → get_or (change_block h blocks x) y None ≡ Some c → Distinct (storages_of c)
  once-change h once here y c is =
      elim (cases_eq y x) [
        | inl same ↦
            let read : get_or (change_block h blocks x) x None ≡ Some (h b) = get_or-set_here blocks x (option_map h) refl ∙ ap (option_map h) there in
            let now : get_or (change_block h blocks x) x None ≡ Some c = rw same at is in
            let P : Block → Type 0 = λ d. Distinct (storages_of d) in
            subst P (same_Some (h b) c (sym read ∙ now)) here
        | inr differs ↦ once y c (sym (get_or-set_other blocks x y _ None differs) ∙ is)
      ]
