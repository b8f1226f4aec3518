-- Losses: lost blocks, and tallies of all blocks with and without some nodes.
pub mod Losses
pub mod Sources
pub mod Tallies
pub mod Rows
pub mod Passes
pub mod Deaths
pub mod After
