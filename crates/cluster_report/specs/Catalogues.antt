-- The stamp and the wanted replicas of each block.
use Rattle.std.specs.Prelude.{◌≡◌, ℕ, nat_eq, Option}
use Rattle.std.specs.Option.{option_map_or}
use Rattle.std.specs.HashMap.{get}
use Rattle.bm_base.specs.declared.replica.BlockInfo.{BlockInfo}
use Rattle.bm_base.specs.Maps.Map as map_of
use Rattle.bm_base.specs.Maps.Map.{Map, by_number}
use Rattle.cluster_report.specs.declared.catalogue.Catalogue.{Catalogue}

-- the entry of a block in a catalogue
abbrev pub info_in : Catalogue → ℕ → Option BlockInfo
info_in c b = get nat_eq c.blocks b

-- the length of a block in bytes; 0 if it is none of these blocks
abbrev pub len_of : Map by_number BlockInfo → ℕ → ℕ
len_of blocks b = option_map_or (λ i. i.stamp.len) (map_of.get blocks b) 0

-- the length of a block in bytes, by a catalogue; 0 if it does not have the block
abbrev pub len_in : Catalogue → ℕ → ℕ
len_in c b = option_map_or (λ i. i.stamp.len) (info_in c b) 0

-- the catalogue holds these blocks
abbrev pub Lists : Catalogue → Map by_number BlockInfo → Type 0
Lists c blocks = (b : ℕ) → info_in c b ≡ map_of.get blocks b
