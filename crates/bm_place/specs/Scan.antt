-- A scan of a list that keeps the least so far of the elements that pass.
use Rattle.std.specs.Prelude.{Bool, true, ◌&&◌, if◌then◌else◌, List, [], ◌∷◌, Option, Some, None}
use Rattle.std.specs.declared.cmp.Ordering.{Ordering}
use Rattle.std.specs.Ordering.{is_lt}

-- whether an element comes before the best so far
abbrev pub is_better : {X : Type 0} → (X → X → Ordering) → Option X → X → Bool
is_better R None x = true
is_better R (Some b) x = is_lt (R x b)

-- the best so far and of a list; of equals the first stays
abbrev pub scan : {X : Type 0} → (X → X → Ordering) → (X → Bool) → Option X → List X → Option X
scan R p best [] = best
scan R p best (x ∷ xs) = scan R p (if p x && is_better R best x then Some x else best) xs
