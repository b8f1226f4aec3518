-- The meaning of a line of fsck, or of the report on DataNodes.
pub mod Cuts
pub mod Escapes
pub mod Wrongs
pub mod Marks
pub mod Places
pub mod Lists
pub mod Blocks
pub mod Headings
pub mod Paths
pub mod Summaries
pub mod Lines
pub mod Feeds
pub mod Nodes
