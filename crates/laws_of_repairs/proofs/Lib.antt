-- Lemmas on repairs: reports and rounds, and lists that have all blocks with a level.
pub mod Rounds
pub mod Reports
pub mod WatchedBlocks
