-- The block manager, in the order in which to read it.
pub mod State
pub mod Replicas
pub mod Levels
pub mod Entries
pub mod Events
pub mod Queries
pub mod RoundStart
pub mod Transfers
pub mod Deletes
pub mod Rounds
pub mod Refusals
pub mod Configuration
pub mod Calls
pub mod Answering
