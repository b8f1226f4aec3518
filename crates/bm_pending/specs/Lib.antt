-- Definitions of the contracts of pending transfers.
pub mod PendingMap
pub mod Inside
pub mod RemainingTargets
pub mod TargetCounts
