-- What readers see of a state.
use Rattle.std.specs.Prelude.{ℕ, List, map, take}
use Rattle.bm_base.specs.declared.limits.TheConstants.{MAX_PLACES}
use Rattle.bm_base.specs.Maps.Map.{keys}
use Rattle.bm_base.specs.Machine.State.{Holdings, State}
use Rattle.bm_base.specs.Machine.Queries.{places}

-- a block's number and its places
abbrev pub Row : Type 0
Row = ℕ × List ℕ

-- a version: after how many accepted calls it was taken, and where each block was then
pub record Version : Type 0 where
  pub calls : ℕ
  pub rows : List Row

-- for each block, ascending, the first `MAX_PLACES` of its places
unfoldable pub table : Holdings → List Row
table H = map (λ b. (b, take MAX_PLACES (places H b))) (keys H.blocks)

-- the version that readers see of a state
unfoldable pub version : State → Version
version M = record { calls = M.calls; rows = table M.holdings }
