-- Lists sorted by their keys.
use Rattle.std.specs.Prelude.{ℕ, List, [], ◌∷◌, T}
use Rattle.std.specs.FinMap.{is_sorted}
use Rattle.bm_base.specs.Ordered.{pair_cmp}

-- the keys of each list are ascending
abbrev pub AreSorted : {X : Type 0} → List (List ((ℕ × ℕ) × X)) → Type 0
AreSorted [] = Unit {0}
AreSorted (es ∷ lists) = T (is_sorted pair_cmp es) × AreSorted lists
