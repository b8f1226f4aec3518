-- Lemmas for examples that take too many steps to compute as a whole.
pub mod Storages
