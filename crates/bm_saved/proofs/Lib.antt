-- Lemmas on saving and restoring.
pub mod Checks
pub mod Groups
pub mod RestoredCluster
pub mod NodesWithoutFaults
pub mod LawfulNodes
pub mod NodeEvents
pub mod RestoredHoldings
pub mod BlocksWithoutFaults
pub mod LawfulBlocks
pub mod BlocksInOrder
pub mod SortedEntries
pub mod BlocksSavedAgain
pub mod NodesSavedAgain
pub mod LinesSavedAgain
pub mod SavedStates
pub mod RestoredParts
pub mod Replays
