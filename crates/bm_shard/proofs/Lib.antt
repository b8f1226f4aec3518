-- Lemmas on a shard: what each event and each round leaves of it, as contracts see it.
mod Levels
mod SameHoldings
mod EmptyHoldings
mod Numbers
mod Reservations
mod ChangedBlocks
mod Counts
mod OwnEvents
mod OneGone
mod Transfers
mod NewNodes
mod Arrivals
mod LookUps
mod OwnTransfers
mod AfterRound
mod UnusedEntries
mod LeavingStorages
