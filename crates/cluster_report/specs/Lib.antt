-- The report on a state, its text, and the lines of its input.
pub mod Books
pub mod Catalogues
pub mod Copies
pub mod TagTotals
pub mod Levels
pub mod Nodes
pub mod LineNotes
pub mod Reports
pub mod Sessions
pub mod Text
