-- Definitions for the functions that C may call.
pub mod Handles
pub mod GivenOptions
pub mod Calls
pub mod Rows
pub mod StoredNumbers
pub mod CommandRows
pub mod ListRows
pub mod DoneRows
