-- The lengths in a catalogue are those of the known blocks.
use Rattle.std.proofs.Common.{◌≡◌, ℕ, List, sum_by, ap}
use Rattle.std.specs.Option.{option_map_or}
use Rattle.bm_base.specs.declared.replica.BlockInfo.{BlockInfo}
use Rattle.bm_base.specs.declared.replica.Replica.{Replica}
use Rattle.bm_base.specs.Maps.Map.{Map, by_number}
use Rattle.cluster_report.specs.Catalogues.{Lists, len_in, len_of}
use Rattle.cluster_report.specs.TagTotals.{tag_bytes}
use Rattle.cluster_report.specs.Levels.{level_bytes}
use Rattle.cluster_report.specs.declared.levels.Leveled.{Leveled}
use Rattle.cluster_report.specs.declared.catalogue.Catalogue.{Catalogue}

pub lens_are : (c : Catalogue) (blocks : Map by_number BlockInfo) → Lists c blocks → len_in c ≡ len_of blocks
lens_are c blocks h = λ i b. option_map_or (λ x. x.stamp.len) (h b i) 0

-- the bytes of these blocks
pub bytes_are : (c : Catalogue) (blocks : Map by_number BlockInfo) (xs : List ℕ) → Lists c blocks → sum_by (len_in c) xs ≡ sum_by (len_of blocks) xs
bytes_are c blocks xs h = ap (λ len. sum_by len xs) (lens_are c blocks h)

pub level_bytes_are : (c : Catalogue) (blocks : Map by_number BlockInfo) (ls : List Leveled) (missing : List ℕ) → Lists c blocks
    → level_bytes (len_in c) ls missing ≡ level_bytes (len_of blocks) ls missing
level_bytes_are c blocks ls missing h = ap (λ len. level_bytes len ls missing) (lens_are c blocks h)

pub tag_bytes_are : (c : Catalogue) (blocks : Map by_number BlockInfo) (rs : List Replica) → Lists c blocks
    → tag_bytes (len_in c) rs ≡ tag_bytes (len_of blocks) rs
tag_bytes_are c blocks rs h = ap (λ len. tag_bytes len rs) (lens_are c blocks h)
