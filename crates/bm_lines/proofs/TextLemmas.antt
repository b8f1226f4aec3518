-- Writing three parts one after another appends their concatenation.
use Rattle.std.proofs.Common.{◌≡◌, ℕ, List, ◌++◌, append_assoc}

-- a text is written in three parts: `before`, `body` and `behind`
pub wrapped : (first second third old body before behind : List ℕ) → first ≡ old ++ before → second ≡ first ++ body → third ≡ second ++ behind → third ≡ old ++ (before ++ (body ++ behind))
wrapped first second third old body before behind e f g = rw (g, f, e) (simp append_assoc)
