-- Lemmas on files: the counts of live replicas of a block.
pub mod CountLemmas
