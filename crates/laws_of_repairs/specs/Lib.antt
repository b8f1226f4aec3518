-- Levels while copies arrive.
pub mod Repairs
