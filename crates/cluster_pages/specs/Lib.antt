-- The report of a cluster: its files at risk, and its text.
pub mod AtRisk
pub mod Text
pub mod Output
