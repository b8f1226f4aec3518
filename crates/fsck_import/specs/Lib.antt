-- The cluster in a text of fsck, and the calls for it.
pub mod Quotes
pub mod Causes
pub mod Lines
pub mod Listings
pub mod TextReading
pub mod CallsFor
pub mod WrittenCalls
pub mod NameTable
pub mod FileTables
pub mod Laws
pub mod Starts
pub mod Imports
pub mod Options
