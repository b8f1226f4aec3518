-- Definitions of the contracts of a topology: the cluster, its tables and their capacity.
pub mod TopologyView
pub mod Racks
pub mod Keys
pub mod Sound
pub mod NewStorages
pub mod Spots
pub mod Room
pub mod ByNode
