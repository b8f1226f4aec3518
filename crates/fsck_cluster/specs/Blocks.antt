-- The blocks, in order.
use Rattle.std.specs.Prelude.{ℕ, Bool, List, [], ◌∷◌, ◌++◌, nat_eq}
use Rattle.std.specs.List.{list_any}
use Rattle.bm_base.specs.declared.replica.BlockInfo.{BlockInfo}

-- blocks with their numbers
abbrev pub NumberedBlocks : Type 0
NumberedBlocks = List (ℕ × BlockInfo)

abbrev pub has_block : NumberedBlocks → ℕ → Bool
has_block blocks id = list_any (λ b. nat_eq id b.0) blocks

abbrev pub with_block : NumberedBlocks → ℕ → BlockInfo → NumberedBlocks
with_block blocks id info = blocks ++ (id, info) ∷ []
