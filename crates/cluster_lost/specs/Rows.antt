-- The tallies of rows, each of the blocks of which the row loses usable replicas.
use Rattle.std.specs.Prelude.{◌≡◌, ℕ, ◌+◌, ◌==◌, ◌++◌, Bool, if◌then◌else◌, List, [], ◌∷◌, length, Option, Some, option_map, slice_get, slice_set}
use Rattle.std.specs.Option.{option_map_or}
use Rattle.bm_base.specs.declared.replica.BlockInfo.{BlockInfo}
use Rattle.cluster_lost.specs.Sources.{touches, left_without}
use Rattle.cluster_lost.specs.Tallies.{with_block, no_blocks, AreWithin}
use Rattle.cluster_lost.specs.declared.sources.Source.{Source}
use Rattle.cluster_lost.specs.declared.block_pass.RowTally.{RowTally}

abbrev pub new_row : RowTally
new_row = record { before = no_blocks; after = no_blocks; lost = [] }

-- n rows, all of them new
pub record AreNew (n : ℕ) (rows : List RowTally) : Type 0 where
  pub each : (k : ℕ) (r : RowTally) → slice_get rows k ≡ Some r → r ≡ new_row
  pub count : length rows ≡ n

-- a row with one more block: its usable replicas, and those that are left
abbrev pub with_row_block : BlockInfo → ℕ → List Source → List Source → RowTally → RowTally
with_row_block i b us left r = record {
  before = with_block i us r.before;
  after = with_block i left r.after;
  lost = if length left == 0 then r.lost ++ b ∷ [] else r.lost;
}

-- the row at an index changes
abbrev pub IsAddedAt : ℕ → (RowTally → RowTally) → List RowTally → List RowTally → Type 0
IsAddedAt at f old new = new ≡ option_map_or (λ r. slice_set old at (f r)) (slice_get old at) old

-- row k with one more block, if it loses one of the replicas `touching`
abbrev pub with_touching : BlockInfo → ℕ → List Source → List Source → ℕ → RowTally → RowTally
with_touching i b us touching k r = if touches k touching then with_row_block i b us (left_without k us) r else r

-- a block is added to each row that loses one of the replicas `touching`
pub record AreAdded (i : BlockInfo) (b : ℕ) (us touching : List Source) (old new : List RowTally) : Type 0 where
  pub each : (k : ℕ) → slice_get new k ≡ option_map (with_touching i b us touching k) (slice_get old k)
  pub count : length new ≡ length old

-- tallies of at most n blocks
pub record IsRowWithin (n : ℕ) (r : RowTally) : Type 0 where
  pub before : AreWithin n r.before
  pub after : AreWithin n r.after

abbrev pub AreRowsWithin : ℕ → List RowTally → Type 0
AreRowsWithin n rows = (k : ℕ) (r : RowTally) → slice_get rows k ≡ Some r → IsRowWithin n r
