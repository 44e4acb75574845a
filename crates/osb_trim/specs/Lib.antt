-- What public contracts cite, in the order in which to read it.

-- What trimming leaves of an order, of a life and of all lives.
pub mod Trimmed
-- What is erased and what stays, and that trimmed lives are well formed.
pub mod Erased
-- No answer changes.
pub mod Stays
