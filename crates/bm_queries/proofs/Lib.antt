-- Lemmas on queries: what is found at slots, once sorted, is what the definition lists.
pub mod DistinctKeys
pub mod IndexedSlots
pub mod GatheredReplicas
pub mod FoundReplicas
pub mod Numbers
pub mod OwnBlocks
pub mod OnStorage
pub mod AtSlot
pub mod WaitingBlocks
pub mod KnownBlocks
