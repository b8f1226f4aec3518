-- A line as a call: the names of calls, the content of fields, the call that they make; and what
-- the reader of canonical lines finds.
pub mod Op
pub mod Fields
pub mod CallOf
pub mod Canonical
