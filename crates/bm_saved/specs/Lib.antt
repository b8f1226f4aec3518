-- What is saved of a state, how it is restored, and the laws of both.
pub mod Saved
pub mod Restoring
pub mod Faults
pub mod SavedText
pub mod Laws
pub mod Runs
pub mod Examples
