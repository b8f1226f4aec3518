-- Lemmas on the maps: binary search, changes of sorted vectors, capacity and lists of slots.
pub mod SortedLaws
pub mod ReplaceLaws
pub mod PutLaws
pub mod BinarySearch
pub mod DenseNumbers
pub mod SlotLists
pub mod Capacity
