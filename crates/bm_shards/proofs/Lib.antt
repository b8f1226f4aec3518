-- Lemmas on all shards: what they hold together, and what is gathered from each.
pub mod NewShards
pub mod SameShards
pub mod GatheredAnswers
pub mod ShardLists
pub mod OneOf
pub mod Findings
pub mod Choices
pub mod RoundsTaken
pub mod Joins
pub mod PartLists
pub mod RoundEnd
pub mod Questions
pub mod Heartbeats
