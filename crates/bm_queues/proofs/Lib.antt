-- Lemmas on lists and sets of slots: links, arrays, and iteration while they change.
pub mod Chains
pub mod HeldLists
pub mod Calls
pub mod Visits
pub mod ListIteration
pub mod MemberLaws
pub mod OneArray
pub mod Indices
pub mod LevelLaws
pub mod CellLaws
