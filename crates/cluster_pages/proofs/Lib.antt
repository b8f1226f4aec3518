-- Lemmas on pages: counts of blocks by file, and the printed text.
pub mod AtRiskLemmas
pub mod OutputLemmas
