-- The lists next to the table of the storages suffice for what the table has capacity for. So a
-- registration in reserved capacity takes no memory for them.
use Rattle.std.specs.Prelude.{ℕ, ◌≤◌}

-- p spots, and capacity for q storages sorted by node, suffice for n storages
pub record HasRoomFor (n p q : ℕ) : Type 0 where
  pub spots : n ≤ p
  pub by_node : n ≤ q
