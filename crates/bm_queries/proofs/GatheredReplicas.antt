-- Iterating over slots and the replicas at each gathers exactly the replicas that pass a test.
use Rattle.std.proofs.Common.{◌≡◌, ℕ, Bool, true, false, cond, List, [], ◌∷◌, ◌++◌, map, filter, Option, Some, None, refl, sym, ap, ◌∙◌, append_assoc}
use Rattle.std.specs.Prelude.{IsSome}
use Rattle.std.specs.Option.{option_map_or}
use Rattle.std.proofs.lemmas.Bool.{false≢true}
use Rattle.bm_base.specs.declared.replica.Replica.{Replica}
use Rattle.bm_base.specs.declared.replica.Marks.{Marks}
use Rattle.bm_arena.specs.Triplets.{Block}
use Rattle.bm_arena.specs.Contents.{Contents, block_at}
use Rattle.bm_queries.specs.ListedElements.{replica_view, listed_at, listed_on}

abbrev pub those : (Marks → Bool) → ℕ → List (ℕ × Marks) → List Replica
those p id rs = map (replica_view id) (filter (λ (r : ℕ × Marks). p r.1) rs)

-- one more that passes was appended, or one that does not was skipped
pub put_in : (p : Marks → Bool) (id : ℕ) (xs : List Replica) (rs rest : List (ℕ × Marks)) (r : ℕ × Marks) → rs ≡ r ∷ rest → p r.1 ≡ true → (xs ++ replica_view id r ∷ []) ++ those p id rest ≡ xs ++ those p id rs
put_in p id xs rs rest r e pass =
    append_assoc xs (replica_view id r ∷ []) (those p id rest)
    ∙ sym (ap (λ l. xs ++ those p id l) e ∙ ap (λ b. xs ++ map (replica_view id) (cond b (r ∷ filter (λ (r : ℕ × Marks). p r.1) rest) (filter (λ (r : ℕ × Marks). p r.1) rest))) pass)

pub left_out : (p : Marks → Bool) (id : ℕ) (xs : List Replica) (rs rest : List (ℕ × Marks)) (r : ℕ × Marks) → rs ≡ r ∷ rest → p r.1 ≡ false → xs ++ those p id rest ≡ xs ++ those p id rs
left_out p id xs rs rest r e fail =
    sym (ap (λ l. xs ++ those p id l) e ∙ ap (λ b. xs ++ map (replica_view id) (cond b (r ∷ filter (λ (r : ℕ × Marks). p r.1) rest) (filter (λ (r : ℕ × Marks). p r.1) rest))) fail)

-- all replicas of a block are those at its slot
pub all_at : (p : Marks → Bool) (o : Option Block) (id : ℕ) → IsSome o → ((b : Block) → o ≡ Some b → id ≡ b.id) → those p id (option_map_or (λ (b : Block). b.replicas) o []) ≡ listed_at p o
all_at p None id there same = absurd (false≢true there)
all_at p (Some b) id there same = ap (λ k. those p k b.replicas) (same b refl)

-- the replicas at a slot were appended
pub put_slot : (p : Marks → Bool) (a : Contents) (xs : List Replica) (slots rest : List ℕ) (slot : ℕ) → slots ≡ slot ∷ rest → (xs ++ listed_at p (block_at a slot)) ++ listed_on p a rest ≡ xs ++ listed_on p a slots
put_slot p a xs slots rest slot e = append_assoc xs (listed_at p (block_at a slot)) (listed_on p a rest) ∙ sym (ap (λ l. xs ++ listed_on p a l) e)
