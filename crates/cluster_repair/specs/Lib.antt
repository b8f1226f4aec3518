-- How lost replicas are repaired: the copies of rounds, the DataNodes that send them, and the rows
-- of a repair.
pub mod LinkModel
pub mod Copies
pub mod SentCopies
pub mod Reports
pub mod Ticks
pub mod History
pub mod Rows
pub mod Retirements
pub mod Reasons
