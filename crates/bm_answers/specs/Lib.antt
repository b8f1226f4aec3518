-- The definitions of the answer to one line.
pub mod OneLine
