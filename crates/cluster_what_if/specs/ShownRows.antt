-- Which rows of rounds are shown.
use Rattle.std.specs.Prelude.{ℕ, ◌+◌, ◌-◌, ◌%◌, ◌==◌, ◌||◌, nat_le, if◌then◌else◌, Bool, List, [], ◌∷◌, length}
use Rattle.cluster_repair.specs.declared.rows.Row.{Row}

-- the least power of two by which at most 40 rows come before the last; at most 8
abbrev pub step_for : ℕ → ℕ
step_for rows = let others = rows - 1 in if nat_le others 40 then 1 else (if nat_le others 80 then 2 else (if nat_le others 160 then 4 else 8))

-- the index of a row is a multiple of the step, or it is the last
abbrev pub is_shown : ℕ → ℕ → ℕ → Bool
is_shown step rows at = at % step == 0 || at == rows - 1

-- of these rows, the first of which has the index `at`, those that are shown
unfoldable pub shown_from : ℕ → ℕ → ℕ → List Row → List Row
shown_from step count at [] = []
shown_from step count at (row ∷ rows) = if is_shown step count at then row ∷ shown_from step count (at + 1) rows else shown_from step count (at + 1) rows

abbrev pub shown_rows : List Row → List Row
shown_rows rows = shown_from (step_for (length rows)) (length rows) 0 rows
