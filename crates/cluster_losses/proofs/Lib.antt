-- Lemmas on losses: their names, lost blocks, and the counts of a cluster.
pub mod Apart
pub mod Counts
pub mod RowCounts
pub mod RowIndexLemmas
pub mod Missing
pub mod NamedLemmas
pub mod NumberLemmas
pub mod DomainLemmas
pub mod Steps
pub mod Tables
pub mod Words
