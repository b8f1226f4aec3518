-- A cluster as fsck and the report on DataNodes describe it.
pub mod Names
pub mod Blocks
pub mod Rows
pub mod NodeStorages
pub mod Clusters
pub mod NodeLists
