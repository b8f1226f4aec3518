-- Definitions of the contracts of the callers.
pub mod ConcurrentReader
pub mod FirstCopy
pub mod PrintedAnswers
pub mod Turns
