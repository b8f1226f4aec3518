-- Losses, and the cluster after them.
pub mod Events
pub mod Faults
pub mod LackingBytes
pub mod NamedStorages
pub mod Outcomes
pub mod FailureDomains
pub mod Questions
pub mod RowCounts
pub mod RowIndex
pub mod Tables
