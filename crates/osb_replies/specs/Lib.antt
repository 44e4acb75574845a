-- What public contracts cite, in the order in which to read it.

-- The text of a reply.
pub mod Text
pub mod Status
-- A reply of the code, and how much of its text was written.
pub mod Parts
pub mod Body
pub mod Written
-- The errors that always have the same status and body.
pub mod FixedError
-- For contracts inside the crate.
pub mod Sending
pub mod Staging
pub mod Pieces
