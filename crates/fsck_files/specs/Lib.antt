-- The files of an fsck text.
pub mod Skips
pub mod Counts
pub mod Numbers
pub mod Replicas
pub mod Files
