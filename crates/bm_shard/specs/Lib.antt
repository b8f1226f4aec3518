-- Definitions of the contracts of a shard: what it holds, its invariants and its changes.
pub mod ShardView
pub mod Codes
pub mod UnusedEntries
pub mod LeavingStorages
pub mod EventEffects
pub mod UpToDate
pub mod Inside
pub mod ArrivedTransfers
