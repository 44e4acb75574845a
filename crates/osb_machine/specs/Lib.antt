-- What public contracts cite, in the order in which to read it.

-- The answer table as a machine: an ask is answered from the lives, and takes a step on them.
pub mod Machine
pub mod Answer
pub mod Decision
-- What a step of the code is in these words.
pub mod Steps
-- The rules of each ask, in the order in which they are tried.
pub mod Provision
pub mod Fetch
pub mod Update
pub mod Deprovision
pub mod Bind
pub mod FetchBinding
pub mod Unbind
pub mod Polls
pub mod Listed
pub mod Report
-- What they have in common.
pub mod Opened
pub mod Plans
pub mod Same
pub mod Texts
-- For contracts inside the crate.
pub mod Spliced
