-- The answers about losses, and their text.
pub mod Text
pub mod Answers
pub mod Findings
pub mod Columns
pub mod Table
pub mod ShownRows
pub mod RepairText
pub mod Picture
pub mod Output
