-- Lemmas on handles: what one owns, heartbeats, lines, rows that are copied out, and where rows
-- have a block.
mod AsBox
mod HeartbeatLemmas
mod Lines
mod CopiedLists
mod RowLists
mod LocatedRows
