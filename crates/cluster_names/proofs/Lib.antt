-- Lemmas on names: numbers and names one to one, and the files of blocks.
pub mod RowLemmas
pub mod FileLemmas
