-- What public contracts cite, in the order in which to read it.

-- Orders, and how an instance and its bindings are, read off the list of all its orders.
pub mod Orders
pub mod Life
pub mod Bindings
pub mod Lists
-- The lives of all instances, and what an ask needs to know of them.
pub mod Lives
pub mod ViewData
pub mod Named
pub mod Listing
-- What a change makes of them.
pub mod Changed
-- Well-formed lives, and the changes that may be made to one.
pub mod IsLife
pub mod Allowed
-- For contracts inside the crate.
pub mod Plain
