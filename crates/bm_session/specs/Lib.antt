-- The definitions of a run: the output for the lines of an input, and the output when the run ends.
pub mod Ends
pub mod FaultCounts
pub mod Text
pub mod StartFaults
pub mod Progress
pub mod Outcome
