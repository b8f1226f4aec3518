-- The row of each node: the index of the failure domain that has it.
use Rattle.std.specs.Prelude.{◌≡◌, ℕ, ◌==◌, Bool, true, false, List, Option, Some, slice_get}
use Rattle.std.specs.Option.{option_map_or}
use Rattle.cluster_lost.specs.Deaths.{is_among}
use Rattle.cluster_losses.specs.declared.failure_domains.FailureDomain.{FailureDomain}

-- no node is in two of these domains
abbrev pub AreApart : List FailureDomain → Type 0
AreApart domains =
    (j k : ℕ) (d e : FailureDomain) → slice_get domains j ≡ Some d → slice_get domains k ≡ Some e
    → (n : ℕ) → is_among d.nodes n ≡ true → is_among e.nodes n ≡ true → j ≡ k

abbrev pub is_row : ℕ → Option ℕ → Bool
is_row k row = option_map_or (λ own. own == k) row false

-- the nodes of the domain at each index have this index as their row, and no others have it
abbrev pub AreRowsOf : List FailureDomain → (ℕ → Option ℕ) → Type 0
AreRowsOf domains row_of = (k : ℕ) (d : FailureDomain) → slice_get domains k ≡ Some d → (n : ℕ) → is_row k (row_of n) ≡ is_among d.nodes n
