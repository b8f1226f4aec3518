-- Numbers that are counted in a map.
use Rattle.std.specs.Prelude.{ℕ, List, nat_eq}
use Rattle.std.specs.Option.{unwrap_or}
use Rattle.std.specs.Map.{lookup}

-- how often a number was counted
abbrev pub count_at : List (ℕ × ℕ) → ℕ → ℕ
count_at es q = unwrap_or (lookup (nat_eq q) es) 0
