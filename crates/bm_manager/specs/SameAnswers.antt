-- Answers of two managers that were made the same calls.
use Rattle.std.specs.Prelude.{◌≡◌, ◌||◌, IsTrue, ◌⊎◌, List, [], ◌∷◌}
use Rattle.bm_base.specs.declared.call.Answer.{Answer}
use Rattle.bm_base.specs.Machine.Answering.{is_out_of_memory}

-- The answers are equal pairwise, up to the first index at which one of the two lists is out of
-- memory. After that they may differ: one of the two has skipped a call that the other one may have
-- made.
abbrev pub HaveSameAnswers : List Answer → List Answer → Type 0
HaveSameAnswers [] [] = Unit {0}
HaveSameAnswers (x ∷ xs) (y ∷ ys) = IsTrue (is_out_of_memory x || is_out_of_memory y) ⊎ ((x ≡ y) × HaveSameAnswers xs ys)
HaveSameAnswers [] (y ∷ ys) = ⊥
HaveSameAnswers (x ∷ xs) [] = ⊥
