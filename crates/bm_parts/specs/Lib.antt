-- The parts into which blocks are cut by their numbers, the whole of them, and what a round finds
-- in each.
pub mod Parts
pub mod Whole
pub mod SettledBlocks
pub mod Findings
-- The laws, each as a statement that a function's contract cites.
pub mod EventLaws
pub mod RoundLaws
pub mod QueryLaws
pub mod LevelLaws
pub mod PlacedLaws
-- Lists sorted by their keys.
pub mod SortedLists
-- The first wishes of a part.
pub mod BoundedWishes
