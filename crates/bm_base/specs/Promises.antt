-- What contracts and laws state about states, calls and rounds.
pub mod Lawful
pub mod AllStates
pub mod Fitting
pub mod NextRound
pub mod Sparing
pub mod Versions
