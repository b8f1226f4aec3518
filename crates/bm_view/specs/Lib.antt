-- Definitions of the contracts of a view: the journal of versions, and what publishers and locators
-- know.
pub mod Version
pub mod Journal
pub mod History
pub mod Rule
pub mod LearntLists
pub mod Holders
