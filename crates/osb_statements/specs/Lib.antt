-- What public contracts cite, in the order in which to read it.

-- The lives that a connection shows, and the rows that store them.
pub mod Steps
pub mod Stored
pub mod StoredLives
pub mod Columns
-- The rows of the current state.
pub mod Standing
pub mod Instances
pub mod Bindings
-- What a transaction has to show, and what a call inside it has written.
pub mod Queries
pub mod LivesWritten
pub mod NextId
-- Why the store refused a call.
pub mod Causes
-- For contracts inside the crate.
pub mod Inside
pub mod Asked
pub mod Shown
pub mod BindingRows
pub mod Written
pub mod Read
pub mod Pieces
