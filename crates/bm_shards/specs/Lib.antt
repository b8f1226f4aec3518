-- Definitions of the contracts of all shards: the whole that they hold, events, queries and rounds.
pub mod Whole
pub mod Codes
pub mod Answers
pub mod ShardWork
pub mod OneShard
pub mod Rounds
pub mod RoundWork
pub mod RoundChoice
pub mod Rows
