-- Definitions for contracts.
pub mod Least
pub mod Tables
pub mod Sources
pub mod Targets
pub mod ChoiceResults
-- Definitions for proofs: the same as in bm_base, for rows and counts.
pub mod Scan
pub mod UpToTwo
pub mod ReplicaSpread
pub mod RackCounts
pub mod Holders
pub mod BestTargets
pub mod SortedExcess
