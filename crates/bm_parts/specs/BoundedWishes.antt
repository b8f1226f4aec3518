-- The first wishes of a part: a round that may command few transfers does not need all of them.
use Rattle.std.specs.Prelude.{ℕ, Bool, true, List, filter, Option, Some, None}
use Rattle.std.specs.Ordering.{is_lt}
use Rattle.bm_base.specs.declared.round.RoundPart.{RoundPart}
use Rattle.bm_base.specs.declared.round.Wish.{Wish}
use Rattle.bm_base.specs.Ordered.{pair_cmp}
use Rattle.bm_base.specs.RoundParts.{wish_key}

-- whether a level and a block come before a bound; always true without a bound
abbrev pub is_before : Option (ℕ × ℕ) → ℕ × ℕ → Bool
is_before None key = true
is_before (Some bound) key = is_lt (pair_cmp key bound)

-- the wishes before a bound
abbrev pub wishes_before : Option (ℕ × ℕ) → List Wish → List Wish
wishes_before bound ws = filter (λ w. is_before bound (wish_key w)) ws

-- a part with its wishes before a bound only
abbrev pub part_before : Option (ℕ × ℕ) → RoundPart → RoundPart
part_before bound p = record p { wishes = wishes_before bound p.wishes }
