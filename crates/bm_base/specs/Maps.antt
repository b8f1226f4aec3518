-- Finite maps whose entries ascend, and lists.
pub mod Conjunction
pub mod Altered
pub mod MapSorted
pub mod Map
pub mod MapCode
pub mod OfSorted
pub mod Lists
pub mod ReplicaOrder
