-- Lemmas on lost blocks: which usable replicas remain after losses; and on the pass that tallies
-- all blocks.
pub mod Tests
pub mod RemainingReplicas
pub mod LostBlocks
pub mod Sums
pub mod SortedReplicas
pub mod RowLemmas
pub mod PassLemmas
pub mod Deaths
pub mod After
pub mod Held
pub mod Totals
