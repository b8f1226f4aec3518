-- Definitions of the contracts of lists and sets of slots.
pub mod Links
pub mod Walks
pub mod LinkedLists
pub mod LevelBytes
pub mod Levels
pub mod DenseLevels
pub mod Members
