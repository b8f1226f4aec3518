-- Lemmas on parts of holdings: events, rounds, queries and levels, and the whole of all parts.
-- Events on the holdings of one part.
pub mod KeepLaws
pub mod RemainingHoldings
pub mod ReportedReplicas
-- What a round chooses of a part.
pub mod ChosenCopies
pub mod WholeChoices
pub mod RoundParts
-- Lists.
pub mod Filters
pub mod JoinedShares
pub mod SortedLists
-- Parts of holdings under events.
pub mod PartMaps
pub mod Parts
pub mod PartSums
-- Parts of holdings in a round.
pub mod CutParts
pub mod PartLists
pub mod MergedChoices
pub mod EqualLists
pub mod FoundLists
-- The whole of parts.
pub mod WholeParts
pub mod PartChanges
pub mod OneShard
-- Queries.
pub mod JoinedReplicas
pub mod JoinedBlocks
pub mod HeldBack
pub mod OwnShard
-- Storages of a block's replicas, and settled blocks.
pub mod Storages
pub mod OneBlock
pub mod SettledBlocks
-- Levels.
pub mod Deaths
pub mod ClusterLevels
pub mod DrainChanges
pub mod ReplicaRacks
-- Where replicas are.
pub mod WellPlaced
pub mod WishesBefore
