-- What public contracts cite, in the order in which to read it.

-- Whether lists are the orders and rows of well-formed lives.
pub mod Audit
pub mod Orders
pub mod Instances
pub mod Bindings
-- The plans in use, and how much there is of everything.
pub mod Plans
pub mod Gathered
pub mod Counts
-- For contracts inside the crate.
pub mod Life
pub mod Runs
