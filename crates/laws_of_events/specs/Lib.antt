-- The laws, each as a statement that a function's contract cites.
pub mod LawfulForEver
pub mod PlainWords
pub mod Reports
pub mod Changes
pub mod Calls
pub mod Queries
pub mod Runs
pub mod DrainingNodes
