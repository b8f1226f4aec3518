-- The storages of a node, added one after another, are all its storages, each with its free bytes.
use Rattle.std.proofs.Common.{◌≡◌, ◌∙◌, ℕ, ◌+◌, List, [], ◌∷◌, ◌++◌, map, ap, sym, arith}
use Rattle.std.specs.List.{range_with_len}
use Rattle.std.proofs.lemmas.List.FromFn.{map-range_with_len_more}
use Rattle.bm_base.specs.declared.event.Remaining.{Remaining}
use Rattle.bm_base.specs.Words.{State}
use Rattle.cluster_simulation.specs.declared.shape.Shape.{Shape}
use Rattle.cluster_simulation.specs.Nodes.{storage_at, remaining_on, free_at}

-- one more is added
pub one_more : {X : Type 0} (f : ℕ → X) (n : ℕ) (old new : List X) (x : X) → new ≡ old ++ x ∷ [] → old ≡ map f (range_with_len 0 n) → x ≡ f n
    → new ≡ map f (range_with_len 0 (n + 1))
one_more f n old new x added before is =
    added ∙ ap (λ xs. xs ++ x ∷ []) before ∙ ap (λ y. map f (range_with_len 0 n) ++ y ∷ []) is ∙ sym (map-range_with_len_more f 0 n n (omega arith))

abbrev pub free_of : ℕ → ℕ → Remaining
free_of s free = record { storage = s; remaining = free }

-- the free bytes of a storage in a heartbeat
pub free_is : (M : State) (shape : Shape) (capacity n place s free : ℕ) → s ≡ storage_at shape n place → free ≡ remaining_on M capacity s
    → free_of s free ≡ free_at M shape capacity n place
free_is M shape capacity n place s free at is = ap (free_of s) is ∙ ap (λ t. free_of t (remaining_on M capacity t)) at
