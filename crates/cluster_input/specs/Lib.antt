-- A cluster that is loaded from lines of the tool or from a text of fsck.
pub mod Kinds
pub mod MadeCalls
pub mod ClusterNames
pub mod Inputs
