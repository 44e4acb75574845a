-- What public contracts cite, in the order in which to read it.

-- What the words ask for, by the commands as clap reads them.
pub mod Words
pub mod Grammar
-- What `check` and `replay` write with status 0.
pub mod Done
pub mod Replay
-- What `serve` leaves of a database file.
pub mod Serve
-- The settings and the files that a command is given.
pub mod Files
pub mod Settings
pub mod BuiltIn
-- The status and the lines of each fault.
pub mod Lines
pub mod Reported
-- For contracts inside the crate.
pub mod Inside
pub mod Input
