-- Lemmas on the cluster: its tables, racks, hints and spots.
pub mod Keys
pub mod IndexedEntries
pub mod RackChanges
pub mod RackSpread
pub mod OtherNodes
pub mod Lengths
pub mod SpotTable
pub mod SoundTables
pub mod RackCount
pub mod Capacity
pub mod OwnStorages
pub mod Repeats
pub mod ByNode
pub mod GrownLists
