-- What public contracts cite, in the order in which to read it.

-- What a call inside a transaction finds or does, and what stays.
pub mod Reads
pub mod Inside
-- The tables of contexts and of the format, and what calls do to them.
pub mod Steps
pub mod Contexts
pub mod Format
pub mod Ended
-- Tables that are read in pieces, and in pages by the ids of rows.
pub mod Pieces
pub mod Pages
-- For contracts inside the crate.
pub mod Made
pub mod Read
