-- The definitions of the line tool: what the options become, and how the program ends.
pub mod Status
pub mod Options
