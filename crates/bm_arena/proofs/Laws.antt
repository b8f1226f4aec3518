-- A list operation changes one storage's list and at most one replica's marks, and no others.
use Rattle.std.proofs.Common.{◌≡◌, ◌≢◌, ℕ, List, [], ◌∷◌, ◌++◌, cond, eqb, Option, Some, None, IsSome, refl, subst, inl, inr, sym, ap, ◌∙◌}
use Rattle.std.specs.Option.{option_map, option_and_then, option_map_or, unwrap_or}
use Rattle.std.specs.Map.{lookup, set_value}
use Rattle.std.specs.Prelude.{slice_index_or, IsSomeAnd, length, ◌<◌, map}
use Rattle.std.specs.Prelude.{nat_eq}
use Rattle.std.proofs.lemmas.Bool.{cases_Bool, eq-eqb, ne_eqb, false≢true}
use Rattle.std.proofs.lemmas.Option.{none-some}
use Rattle.std.proofs.lemmas.List.{get_or-set_other}
use Rattle.bm_base.specs.declared.replica.Marks.{Marks}
use Rattle.bm_arena.specs.declared.arena.Triplet.{Triplet}
use Rattle.bm_arena.specs.Triplets.{Block, change_block, find_triplet, fill_first, is_of, triplet_view}
use Rattle.bm_maps.specs.SlotLists.{IsMember, Distinct, without}
use Rattle.bm_arena.specs.Contents.{Contents, block_at, list_of, HasHead, marks_at, find_marks, with_list, with_replica, without_replica, linked_front, unlinked, moved_front, HasCapacity, IsLawful, KeepsOthers, known_of, entry_capacity}
use Rattle.bm_arena.proofs.Replicas.{keys, map-fill_first, find_marks-seen, found-fill_first_here, found-fill_first_other}
use Rattle.bm_arena.proofs.Triplets.{get_or-set_here}
use Rattle.bm_arena.proofs.EntryViews.{marks_of}
use Rattle.bm_arena.proofs.SoundLinks.{lookup-set_same, lookup-set_other}

-- the lists after that of a storage with a head was replaced
module _ (a : Contents) (s : ℕ) (xs : List ℕ) where
  headed : HasHead a s → (ys : List ℕ) × (lookup (nat_eq s) a.lists ≡ Some ys)
  headed head = by (lookup (nat_eq s) a.lists) refl head
    where
      by : (o : Option (List ℕ)) → lookup (nat_eq s) a.lists ≡ o → IsSome o → (ys : List ℕ) × (lookup (nat_eq s) a.lists ≡ Some ys)
      by None is some = absurd (false≢true some)
      by (Some ys) is some = (ys, is)

  pub list_of-with_list : HasHead a s → unwrap_or (lookup (nat_eq s) (with_list a s xs)) [] ≡ xs
  list_of-with_list head =
      let h = headed head in
      ap (λ o. unwrap_or o []) (lookup-set_same s xs a.lists h.0 h.1)

  pub list_of-with_other : (q : ℕ) → q ≢ s → unwrap_or (lookup (nat_eq q) (with_list a s xs)) [] ≡ list_of a q
  list_of-with_other q differs = ap (λ o. unwrap_or o []) (lookup-set_other s xs q a.lists differs)

-- a replica is linked at the head
module _ (a : Contents) (slot s : ℕ) (m : Marks) where
  pub list_of-linked_front : HasHead a s → list_of (linked_front a slot s m) s ≡ slot ∷ list_of a s
  list_of-linked_front head = list_of-with_list a s (slot ∷ list_of a s) head

  pub list_of-linked_other : (q : ℕ) → q ≢ s → list_of (linked_front a slot s m) q ≡ list_of a q
  list_of-linked_other q differs = list_of-with_other a s (slot ∷ list_of a s) q differs

  found_last : (rs : List (ℕ × Marks)) → find_marks rs s ≡ None → find_marks (rs ++ (s, m) ∷ []) s ≡ Some m
  found_last [] none = rw (eq-eqb s s refl) refl
  found_last (r ∷ rs) none =
      elim (cases_Bool (eqb r.0 s)) [
        | inl here ↦ absurd (none-some r.1 (sym none ∙ rw here refl))
        | inr other ↦ rw other (found_last rs (rw other at none))
      ]

  found_before : (rs : List (ℕ × Marks)) (q : ℕ) → q ≢ s → find_marks (rs ++ (s, m) ∷ []) q ≡ find_marks rs q
  found_before [] q differs = rw (ne_eqb s q (λ e. differs (sym e))) refl
  found_before (r ∷ rs) q differs = ap (λ o. cond (eqb r.0 q) (Some r.1) o) (found_before rs q differs)

  pub marks_at-linked_front : (b : Block) → block_at a slot ≡ Some b → marks_at a slot s ≡ None → marks_at (linked_front a slot s m) slot s ≡ Some m
  marks_at-linked_front b is none =
      let after : block_at (linked_front a slot s m) slot ≡ Some (with_replica s m b) = get_or-set_here a.blocks slot (option_map (with_replica s m)) refl ∙ ap (option_map (with_replica s m)) is in
      let before : find_marks b.replicas s ≡ None = sym (ap (λ o. option_and_then (λ (c : Block). find_marks c.replicas s) o) is) ∙ none in
      ap (λ o. option_and_then (λ (c : Block). find_marks c.replicas s) o) after ∙ found_last b.replicas before

-- the list after a slot was moved to its head
pub list_of-moved_front : (a : Contents) (slot s : ℕ) → HasHead a s → list_of (moved_front a slot s) s ≡ slot ∷ without slot (list_of a s)
list_of-moved_front a slot s head = list_of-with_list a s (slot ∷ without slot (list_of a s)) head

-- the list after a slot was unlinked
pub list_of-unlinked : (a : Contents) (slot s : ℕ) → HasHead a s → list_of (unlinked a slot s) s ≡ without slot (list_of a s)
list_of-unlinked a slot s head = list_of-with_list a s (without slot (list_of a s)) head

-- the storage of each replica has a head
pub head-lawful : (a : Contents) → IsLawful a → (slot s : ℕ) → IsSome (marks_at a slot s) → HasHead a s
head-lawful a lawful slot s some = by (lookup (nat_eq s) a.lists) refl
  where
    by : (o : Option (List ℕ)) → lookup (nat_eq s) a.lists ≡ o → IsSome (lookup (nat_eq s) a.lists)
    by None is =
        let P : List ℕ → Type 0 = λ l. IsMember slot l in
        absurd (subst P (ap (λ o. unwrap_or o []) is) ((lawful.exact slot s).1 some))
    by (Some xs) is = rw is refl

-- replacing a list changes no head
module _ (a : Contents) (s : ℕ) (xs : List ℕ) where
  some-set : (q : ℕ) (es : List (ℕ × List ℕ)) → IsSome (lookup (nat_eq q) es) → IsSome (lookup (nat_eq q) (set_value (nat_eq s) es xs))
  some-set q [] some = some
  some-set q (e ∷ es) some =
      elim (cases_Bool (eqb s e.0)) [
        | inl here ↦ elim (cases_Bool (eqb q e.0)) [ inl found ↦ rw (here, found) refl | inr later ↦ rw (here, later) (rw later at some) ]
        | inr passed ↦
            elim (cases_Bool (eqb q e.0)) [ inl found ↦ rw (passed, found) refl | inr later ↦ rw (passed, later) (some-set q es (rw later at some)) ]
      ]

-- replicas as triplets without links, for the lemmas on triplets
abbrev as_triplets : List (ℕ × Marks) → List Triplet
as_triplets rs = map (λ (r : ℕ × Marks). record { storage = r.0; previous = None; next = None; marks = r.1 }) rs

seen-as : (rs : List (ℕ × Marks)) → map triplet_view (as_triplets rs) ≡ rs
seen-as [] = refl
seen-as (r ∷ rs) = ap (λ l. r ∷ l) (seen-as rs)

keys-as : (rs : List (ℕ × Marks)) → keys (as_triplets rs) ≡ map (λ (r : ℕ × Marks). r.0) rs
keys-as [] = refl
keys-as (r ∷ rs) = ap (λ l. r.0 ∷ l) (keys-as rs)

found-filled : (rs : List (ℕ × Marks)) (s q : ℕ) → find_marks (fill_first (λ (r : ℕ × Marks). eqb r.0 s) rs) q ≡ option_map marks_of (find_triplet (fill_first (is_of s) (as_triplets rs)) q)
found-filled rs s q =
    ap (λ l. find_marks l q)
    (ap (fill_first (λ (r : ℕ × Marks). eqb r.0 s)) (sym (seen-as rs)) ∙ sym (map-fill_first triplet_view (λ (r : ℕ × Marks). eqb r.0 s) (as_triplets rs)))
    ∙ find_marks-seen (fill_first (is_of s) (as_triplets rs)) q

found-as : (rs : List (ℕ × Marks)) (q : ℕ) → option_map marks_of (find_triplet (as_triplets rs) q) ≡ find_marks rs q
found-as rs q = sym (find_marks-seen (as_triplets rs) q) ∙ ap (λ l. find_marks l q) (seen-as rs)

-- the changed block at the slot
changed_block : (h : Block → Block) (a : Contents) (slot : ℕ) → slice_index_or (change_block h a.blocks slot) slot None ≡ option_map h (block_at a slot)
changed_block h a slot = get_or-set_here a.blocks slot (option_map h) refl

known-changed : (h : Block → Block) → ((b : Block) → (h b).id ≡ b.id) → ((b : Block) → (h b).info ≡ b.info) → (o : Option Block) → known_of (option_map h o) ≡ known_of o
known-changed h same_id same_info None = refl
known-changed h same_id same_info (Some b) = rw (same_id b, same_info b) refl

-- the capacity does not change with the replicas
capacity-same : (h : Block → Block) (a : Contents) (slot : ℕ) → ((b : Block) → (h b).capacity ≡ b.capacity) → entry_capacity (record a { blocks = change_block h a.blocks slot }) slot ≡ entry_capacity a slot
capacity-same h a slot same = ap (λ o. option_map_or (λ (b : Block). b.capacity) o 0) (changed_block h a slot) ∙ by (block_at a slot)
  where
    by : (o : Option Block) → option_map_or (λ (b : Block). b.capacity) (option_map h o) 0 ≡ option_map_or (λ (b : Block). b.capacity) o 0
    by None = refl
    by (Some b) = same b

pub others-linked_front : (a : Contents) (slot s : ℕ) (m : Marks) → KeepsOthers a (linked_front a slot s m) slot s
others-linked_front a slot s m = record {
  lists = λ q differs. list_of-linked_other a slot s m q differs;
  heads = λ q some. some-set a s (slot ∷ list_of a s) q a.lists some;
  blocks = λ q differs. get_or-set_other a.blocks slot q _ None differs;
  marks = λ q differs.
      ap (λ o. option_and_then (λ (b : Block). find_marks b.replicas q) o) (changed_block (with_replica s m) a slot) ∙ stays q differs (block_at a slot);
  known = ap known_of (changed_block (with_replica s m) a slot) ∙ known-changed (with_replica s m) (λ _. refl) (λ _. refl) (block_at a slot);
  ids = refl;
  delimiter = refl;
  steps = refl;
  bound = refl;
  capacity = capacity-same (with_replica s m) a slot (λ _. refl);
}
  where
    stays : (q : ℕ) → q ≢ s → (o : Option Block) → option_and_then (λ (b : Block). find_marks b.replicas q) (option_map (with_replica s m) o) ≡ option_and_then (λ (b : Block). find_marks b.replicas q) o
    stays q differs None = refl
    stays q differs (Some b) = found_before a slot s m b.replicas q differs

-- an unlinked replica is gone, and the block's others stay
module _ (a : Contents) (lawful : IsLawful a) (slot s : ℕ) where
  left : (q : ℕ) (o : Option Block) → block_at a slot ≡ o → option_and_then (λ (b : Block). find_marks b.replicas q) (option_map (without_replica s) o) ≡ option_and_then (λ (b : Block). find_marks (fill_first (λ (r : ℕ × Marks). eqb r.0 s) b.replicas) q) o
  left q None is = refl
  left q (Some b) is = refl

  after_unlink : (q : ℕ) → marks_at (unlinked a slot s) slot q ≡ option_and_then (λ (b : Block). find_marks (fill_first (λ (r : ℕ × Marks). eqb r.0 s) b.replicas) q) (block_at a slot)
  after_unlink q =
      ap (λ o. option_and_then (λ (b : Block). find_marks b.replicas q) o) (changed_block (without_replica s) a slot) ∙ left q (block_at a slot) refl

  once_as : (b : Block) → block_at a slot ≡ Some b → Distinct (keys (as_triplets b.replicas))
  once_as b is = rw (keys-as b.replicas) (lawful.once slot b is)

  pub marks_at-unlinked : marks_at (unlinked a slot s) slot s ≡ None
  marks_at-unlinked = after_unlink s ∙ by (block_at a slot) refl
    where
      by : (o : Option Block) → block_at a slot ≡ o → option_and_then (λ (b : Block). find_marks (fill_first (λ (r : ℕ × Marks). eqb r.0 s) b.replicas) s) o ≡ None
      by None is = refl
      by (Some b) is = found-filled b.replicas s s ∙ ap (option_map marks_of) (found-fill_first_here (as_triplets b.replicas) s (once_as b is))

  pub others-unlinked : KeepsOthers a (unlinked a slot s) slot s
  others-unlinked = record {
    lists = λ q differs. list_of-with_other a s (without slot (list_of a s)) q differs;
    heads = λ q some. some-set a s (without slot (list_of a s)) q a.lists some;
    blocks = λ q differs. get_or-set_other a.blocks slot q _ None differs;
    marks = λ q differs. after_unlink q ∙ by q differs (block_at a slot) refl;
    known = ap known_of (changed_block (without_replica s) a slot) ∙ known-changed (without_replica s) (λ _. refl) (λ _. refl) (block_at a slot);
    ids = refl;
    delimiter = refl;
    steps = refl;
    bound = refl;
    capacity = capacity-same (without_replica s) a slot (λ _. refl);
  }
    where
      by : (q : ℕ) → q ≢ s → (o : Option Block) → block_at a slot ≡ o → option_and_then (λ (b : Block). find_marks (fill_first (λ (r : ℕ × Marks). eqb r.0 s) b.replicas) q) o ≡ option_and_then (λ (b : Block). find_marks b.replicas q) o
      by q differs None is = refl
      by q differs (Some b) is =
          found-filled b.replicas s q ∙ ap (option_map marks_of) (found-fill_first_other (as_triplets b.replicas) s q (once_as b is) differs) ∙ found-as b.replicas q

pub others-moved_front : (a : Contents) (slot s : ℕ) → KeepsOthers a (moved_front a slot s) slot s
others-moved_front a slot s = record {
  lists = λ q differs. list_of-with_other a s (slot ∷ without slot (list_of a s)) q differs;
  heads = λ q some. some-set a s (slot ∷ without slot (list_of a s)) q a.lists some;
  blocks = λ q differs. refl;
  marks = λ q differs. refl;
  known = refl;
  ids = refl;
  delimiter = refl;
  steps = refl;
  bound = refl;
  capacity = refl;
}

-- the marks of a replica that was linked, if the block has capacity
pub marks_at-linked : (a : Contents) (slot s : ℕ) (m : Marks) → HasCapacity a slot → marks_at a slot s ≡ None → marks_at (linked_front a slot s m) slot s ≡ Some m
marks_at-linked a slot s m capacity none = by (block_at a slot) refl
  where
    by : (o : Option Block) → block_at a slot ≡ o → marks_at (linked_front a slot s m) slot s ≡ Some m
    by None is =
        let P : Option Block → Type 0 = λ o. IsSomeAnd o (λ (b : Block). length b.replicas < b.capacity) in
        absurd (subst P is capacity)
    by (Some b) is = marks_at-linked_front a slot s m b is none
