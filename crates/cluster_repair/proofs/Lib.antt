-- Lemmas on repairs: rounds, copies on their way, ticks, watched blocks, rows and notes.
pub mod Reach
pub mod NumberLemmas
pub mod CopyLemmas
pub mod TickLemmas
pub mod HistoryLemmas
pub mod RetirementLemmas
pub mod SentLemmas
pub mod WatchLemmas
pub mod UnmendedLemmas
pub mod ReasonLemmas
pub mod RowLemmas
