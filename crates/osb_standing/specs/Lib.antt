-- What public contracts cite, in the order in which to read it.

-- The rows of the current state.
pub mod Rows
-- How an order that is written changes them.
pub mod Written
pub mod Instance
pub mod Binding
-- What is read of them: the facts for an ask, and the listing.
pub mod Read
pub mod Listing
-- Laws.
pub mod Laws
