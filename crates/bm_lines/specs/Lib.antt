-- The definitions of lines: how bytes are cut into them, and which call a line asks for.
pub mod Lines
pub mod LineBuffer
pub mod Parser
pub mod Print
pub mod CallText
pub mod FittingNumbers
