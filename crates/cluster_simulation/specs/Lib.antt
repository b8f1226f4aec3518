-- Definitions of the parts of a simulation.
pub mod Nodes
pub mod NewBlocks
pub mod Incidents
pub mod RoundCounts
