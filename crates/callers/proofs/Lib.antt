-- Lemmas of the callers.
mod Refusals
mod Stops
mod LearntLists
mod Members
mod Holdings
