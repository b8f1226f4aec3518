-- If no number with a slot exceeds g, none exceeds max(g, id) once the number id gets a slot.
use Rattle.std.proofs.Common.{ℕ, ◌≤◌, List, [], ◌∷◌, ◌++◌, max, inl, inr, arith}
use Rattle.bm_arena.specs.Inside.{AreAtMost}
use Rattle.bm_arena.proofs.Entries.{lookup-push_cases}

pub up_to-added : (ids : List (ℕ × ℕ)) (greatest id slot : ℕ) → AreAtMost ids greatest → AreAtMost (ids ++ (id, slot) ∷ []) (max greatest id)
up_to-added ids greatest id slot below q x is =
    elim (lookup-push_cases q id slot x ids is) [
      | inl before ↦ let low : q ≤ greatest = below q x before in omega (arith, low)
      | inr here ↦ omega (arith, here.0)
    ]
