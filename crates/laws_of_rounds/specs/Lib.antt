-- The laws, each as a statement that a function's contract cites.
pub mod Levels
pub mod Live
pub mod Surplus
pub mod Deletes
pub mod Transfers
pub mod Rounds
pub mod Commands
pub mod Obedience
