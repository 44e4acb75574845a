-- What public contracts cite, in the order in which to read it.

-- A request head, and what its field lines say.
pub mod Heads
pub mod Fields
-- How the bytes of a connection are cut into requests, and how they end.
pub mod Cuts
-- What `next` says of bytes of which more may come.
pub mod Steps
pub mod Line
-- The calls that are made of a source or a sink.
pub mod Calls
pub mod Counted
pub mod InMemory
pub mod Writers
-- For contracts inside the crate.
pub mod Found
