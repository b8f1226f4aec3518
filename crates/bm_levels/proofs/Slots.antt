-- The replicas at a slot from an index on are the one at the index and those after it.
use Rattle.std.specs.Prelude.{◌≡◌, ℕ, suc, ◌+◌, ◌<◌, ◌≤◌, List, [], ◌∷◌, length, map, drop, slice_get, Option, Some, None, option_map, option_and_then}
use Rattle.std.specs.Option.{option_map_or}
use Rattle.std.proofs.Common.{refl, sym, ap, ◌∙◌, arith, get_or, inl, inr, drop_of_length-le}
use Rattle.std.proofs.lemmas.Option.{slice_get_cases, slice_get-map, slice_get_read}
use Rattle.std.proofs.lemmas.List.{length-map}
use Rattle.bm_base.specs.declared.replica.Marks.{Marks}
use Rattle.bm_arena.specs.declared.arena.Triplet.{Triplet}
use Rattle.bm_arena.specs.Triplets.{Block, triplet_view}
use Rattle.bm_arena.specs.Contents.{Contents}
use Rattle.bm_levels.specs.IndexedLevels.{indexed_slots}
use Rattle.bm_report.proofs.PartialReport.{drop_next}

abbrev listed : Option Block → List (ℕ × Marks)
listed o = option_map_or (λ (b : Block). b.replicas) o []

-- the replica at an index is the first of those from it on
pub next_at : (o : Option Block) (i : ℕ) (r : ℕ × Marks) → option_and_then (λ (b : Block). slice_get b.replicas i) o ≡ Some r → drop i (listed o) ≡ r ∷ drop (i + 1) (listed o)
next_at None i r e = cc
next_at (Some b) i r e = drop_next b.replicas i r e ∙ (let same : suc i ≡ i + 1 = omega arith in ap (λ k. r ∷ drop k b.replicas) same)

-- there is a replica at each index below their number
pub none_at : (o : Option Block) (i : ℕ) → option_and_then (λ (b : Block). slice_get b.replicas i) o ≡ None → i < option_map_or (λ (b : Block). length b.replicas) o 0 → ⊥
none_at None i e lt = omega (arith, lt)
none_at (Some b) i e lt =
    elim (slice_get_cases b.replicas i).1 [
      | inl h ↦ absurd (sure (sym h.2 ∙ e))
      | inr h ↦ omega (arith, lt, h.0)
    ]
  where
    sure : {X : Type 0} {x : X} → Some x ≡ None → ⊥
    sure e = cc

-- there is no replica from their number on
pub end_at : (o : Option Block) (i : ℕ) → option_map_or (λ (b : Block). length b.replicas) o 0 ≤ i → drop i (listed o) ≡ []
end_at None i h = drop_of_length-le {A = ℕ × Marks} [] (omega arith)
end_at (Some b) i h = drop_of_length-le b.replicas h

-- the triplet at an index is the first of those from it on, as seen
pub next_triplet : (ts : List Triplet) (i : ℕ) (t : Triplet) → i < length ts → t ≡ get_or ts i t → drop i (map triplet_view ts) ≡ triplet_view t ∷ drop (i + 1) (map triplet_view ts)
next_triplet ts i t below read =
    drop_next (map triplet_view ts) i (triplet_view t) (slice_get-map triplet_view ts i ∙ ap (option_map triplet_view) (slice_get_read ts (length ts) i t refl below read))
    ∙ (let same : suc i ≡ i + 1 = omega arith in ap (λ k. triplet_view t ∷ drop k (map triplet_view ts)) same)

-- there is no triplet from their number on, as seen
pub end_triplets : (ts : List Triplet) (i : ℕ) → length ts ≤ i → drop i (map triplet_view ts) ≡ []
end_triplets ts i h = drop_of_length-le (map triplet_view ts) (let same = length-map ts triplet_view in omega (arith, h, same))

-- the slot at an index is the first of those from it on, among those to which numbers lead
pub led_next : (a : Contents) (i slot : ℕ) → Some slot ≡ option_map (λ (p : ℕ × ℕ). p.1) (slice_get a.ids i) → drop i (indexed_slots a) ≡ slot ∷ drop (i + 1) (indexed_slots a)
led_next a i slot e =
    drop_next (indexed_slots a) i slot (slice_get-map (λ (p : ℕ × ℕ). p.1) a.ids i ∙ sym e) ∙ (let same : suc i ≡ i + 1 = omega arith in ap (λ k. slot ∷ drop k (indexed_slots a)) same)

pub led_none : (a : Contents) (i : ℕ) → option_map (λ (p : ℕ × ℕ). p.1) (slice_get a.ids i) ≡ None → i < length a.ids → ⊥
led_none a i e lt =
    elim (slice_get_cases a.ids i).1 [
      | inl h ↦ absurd (sure (sym (ap (option_map (λ (p : ℕ × ℕ). p.1)) h.2) ∙ e))
      | inr h ↦ omega (arith, lt, h.0)
    ]
  where
    sure : {X : Type 0} {x : X} → Some x ≡ None → ⊥
    sure e = cc

pub led_end : (a : Contents) (i : ℕ) → length a.ids ≤ i → drop i (indexed_slots a) ≡ []
led_end a i h = drop_of_length-le (indexed_slots a) (let same = length-map a.ids (λ (p : ℕ × ℕ). p.1) in omega (arith, h, same))
