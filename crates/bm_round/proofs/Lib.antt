-- Lemmas on a round's choices: merged wishes, transfers, deletes and commands.
pub mod WishCopies
pub mod GatheredLists
pub mod KeyedLists
pub mod LastOfEach
pub mod AddedCommands
pub mod FirstDeletes
pub mod Bounds
pub mod WishedCopies
pub mod NodeCommands
pub mod EmptyChoice
pub mod FirstWishes
