-- Searching a block's triplets finds a replica on a storage that passes a test, if there is one.
use Rattle.std.proofs.Common.{◌≡◌, ℕ, zero, suc, ◌<◌, List, [], ◌∷◌, map, length, eqb, Bool, true, false, Option, Some, None, IsSome, refl, inl, inr, sym, subst, ap, ◌∙◌}
use Rattle.std.specs.Prelude.{slice_get}
use Rattle.std.specs.Option.{option_map, option_and_then}
use Rattle.std.proofs.lemmas.Bool.{cases_Bool, eq-eqb, eqb-true, false≢true}
use Rattle.std.proofs.lemmas.Option.{none-some, slice_get_within, same_Some}
use Rattle.bm_base.specs.declared.replica.Marks.{Marks}
use Rattle.bm_arena.specs.declared.arena.Triplet.{Triplet}
use Rattle.bm_arena.specs.Triplets.{Block, triplet_view}
use Rattle.bm_arena.specs.Contents.{find_marks}

-- a look-up in a block is one in its replicas
of_block : (o : Option Block) (rs : List (ℕ × Marks)) (t : ℕ) → Some rs ≡ option_map (λ (b : Block). b.replicas) o → option_and_then (λ (b : Block). find_marks b.replicas t) o ≡ find_marks rs t
of_block None rs t is = absurd (none-some rs (sym is))
of_block (Some b) rs t is = ap (λ xs. find_marks xs t) (sym (same_Some rs b.replicas is))

-- a replica in the list is found by its storage
found-at : (ts : List Triplet) (i : ℕ) (t : Triplet) → slice_get ts i ≡ Some t → IsSome (find_marks (map triplet_view ts) t.storage)
found-at [] i t e = absurd (none-some t e)
found-at (x ∷ ts) zero t e = let same : x ≡ t = same_Some x t e in rw (eq-eqb x.storage t.storage (ap (λ (y : Triplet). y.storage) same)) refl
found-at (x ∷ ts) (suc i) t e = elim (cases_Bool (eqb x.storage t.storage)) [ inl here ↦ rw here refl | inr other ↦ rw other (found-at ts i t e) ]

pub found-in : (o : Option Block) (ts : List Triplet) (i : ℕ) (t : Triplet) → Some (map triplet_view ts) ≡ option_map (λ (b : Block). b.replicas) o → slice_get ts i ≡ Some t
    → IsSome (option_and_then (λ (b : Block). find_marks b.replicas t.storage) o)
found-in o ts i t is e = let P : Option Marks → Type 0 = λ m. IsSome m in subst P (sym (of_block o (map triplet_view ts) t.storage is)) (found-at ts i t e)

-- if no triplet is on a storage that passes, none on such a storage is found
none-at : (p : ℕ → Bool) (ts : List Triplet) → ((k : ℕ) (x : Triplet) → slice_get ts k ≡ Some x → p x.storage ≡ false) → (t : ℕ) → p t ≡ true → find_marks (map triplet_view ts) t ≡ None
none-at p [] h t passes = refl
none-at p (x ∷ ts) h t passes =
    elim (cases_Bool (eqb x.storage t)) [
      | inl here ↦ absurd (false≢true (sym (h zero x refl) ∙ ap p (eqb-true x.storage t here) ∙ passes))
      | inr other ↦ rw other (none-at p ts (λ k y e. h (suc k) y e) t passes)
    ]

-- the same once all triplets were tried
pub none-in : (p : ℕ → Bool) (o : Option Block) (ts : List Triplet) → Some (map triplet_view ts) ≡ option_map (λ (b : Block). b.replicas) o
    → ((k : ℕ) → k < length ts → (x : Triplet) → slice_get ts k ≡ Some x → p x.storage ≡ false) → (t : ℕ) → p t ≡ true → option_and_then (λ (b : Block). find_marks b.replicas t) o ≡ None
none-in p o ts is h t passes = of_block o (map triplet_view ts) t is ∙ none-at p ts (λ k x e. h k (slice_get_within ts k x e) x e) t passes
