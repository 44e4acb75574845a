-- What public contracts cite, in the order in which to read it. The lives that a connection shows are `stored` of
-- osb_statements.

-- What the calls do: a change, taking a database over, reading; and what a crash leaves.
pub mod Commit
pub mod Changes
pub mod Opened
pub mod Looks
pub mod CrashLeaves
-- How many requests were refused.
pub mod Refusals
-- For contracts inside the crate.
pub mod Listed
pub mod Transactions
