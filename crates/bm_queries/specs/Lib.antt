-- Definitions of the contracts of queries: the elements listed at slots, and their ascending lists.
pub mod ListedElements
