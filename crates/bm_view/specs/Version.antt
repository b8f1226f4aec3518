-- The content of a version, and where its rows put a block.
use Rattle.std.specs.Prelude.{ℕ, ◌<◌, List, [], ◌∷◌, if◌then◌else◌, ◌==◌, AllPairs}
use Rattle.bm_base.specs.Promises.Versions.{Row, Version}

-- the block numbers are strictly ascending
abbrev pub AscendsById : List Row → Type 0
AscendsById rows = AllPairs (λ r s. r.0 < s.0) rows

-- the places in the block's row; no places if it has no row
abbrev pub places_in : List Row → ℕ → List ℕ
places_in [] id = []
places_in (r ∷ rs) id = if r.0 == id then r.1 else places_in rs id

-- what is published before any call
abbrev pub opening : Version
opening = record { calls = 0; rows = [] }
