-- Worked examples: scripts and their answers, computed by the definitions of the state machine.
pub mod Runs
pub mod Script
pub mod Levels
pub mod Copies
pub mod Deletes
pub mod Reports
pub mod Refusals
pub mod Limits
pub mod DrainingNodes
-- Choices on one small cluster.
pub mod Choices
