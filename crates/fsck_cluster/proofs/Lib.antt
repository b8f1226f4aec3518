-- Lemmas on the cluster of a text: names and blocks in hash tables.
pub mod NameLemmas
pub mod BlockLemmas
pub mod RowLemmas
