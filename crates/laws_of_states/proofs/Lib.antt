-- Lemmas: accepted events and rounds keep states lawful, and deletes leave enough live replicas.
pub mod BlockEvents
pub mod FirstState
pub mod LawfulRounds
pub mod AcceptedEvents
pub mod OrderlyStates
-- What a round's deletes leave of a block.
pub mod Surpluses
pub mod LiveReplicas
pub mod MarkedReplicas
pub mod RoundCommands
pub mod LiveAfterRound
pub mod AfterRound
pub mod CommandedDeletes
pub mod LastGood
