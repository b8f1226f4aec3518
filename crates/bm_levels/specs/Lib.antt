-- Definitions of the contracts of levels: the status of each block, and its changes by events and
-- rounds.
pub mod Status
pub mod ReplicaCounts
pub mod IndexedLevels
pub mod SlotHoldings
pub mod LeveledBlocks
pub mod LevelsBy
pub mod ClusterAfter
pub mod LeavingReplicas
pub mod Changes
pub mod UnusedEntries
