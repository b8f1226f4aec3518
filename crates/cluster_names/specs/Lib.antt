-- The names of a cluster.
pub mod Rows
pub mod Names
pub mod FileTable
