-- Lemmas on simulations: made-up storages, messages about calls, and rounds.
pub mod Numbers
pub mod Calls
pub mod RoundLemmas
pub mod Storages
