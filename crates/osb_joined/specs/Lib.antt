-- What public contracts cite, in the order in which to read it.

-- The contexts of lives as the entries of a table, and what a written order makes of them.
pub mod Contexts
pub mod After
-- Orders and rows with their contexts, and whether these are theirs.
pub mod Joined
pub mod Join
pub mod Audit
-- Laws.
pub mod Laws
-- For contracts inside the crate.
pub mod Fits
