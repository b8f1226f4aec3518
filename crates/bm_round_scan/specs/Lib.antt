-- The marks of a block's replicas as a round begins, and the findings of a block.
pub mod BlockMarks
pub mod BlockScans
pub mod Requests
pub mod ScannedSlots
-- The findings of several blocks, in any order.
pub mod BlockFindings
