-- Lemmas on reports of a cluster: keys by index, lines, copies on their way, and block lengths.
pub mod TakenKeys
-- Lines.
pub mod NamedNumbers
pub mod LineLemmas
pub mod ReadLemmas
-- The copies on their way, and all of the state after a call.
pub mod TreeMaps
pub mod SentLemmas
pub mod CopyLemmas
pub mod StepLemmas
-- Lengths of blocks.
pub mod LengthLemmas
pub mod CatalogueLemmas
-- A whole report.
pub mod ReportLemmas
