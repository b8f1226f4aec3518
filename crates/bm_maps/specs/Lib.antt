-- Words of sorted maps and of lists of slots.
pub mod KeyIndex
pub mod Table
pub mod SlotLists
pub mod SlotLinks
