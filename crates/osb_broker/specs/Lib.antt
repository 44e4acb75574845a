-- What public contracts cite, in the order in which to read it.

-- The broker's machine: an answer for each request, by the answer table or by its fault.
pub mod Machine
pub mod Steps
pub mod Faults
-- What answers a connection, and one connection after another.
pub mod Connection
-- What serving did: what was written, how it ended, and which reads were made.
pub mod Served
pub mod Serving
-- What a crash leaves of a connection.
pub mod Crashes
-- What a broker keeps, how many requests of a connection it takes, its plans in use, and the room that it reads into.
pub mod BrokerState
pub mod PerConnection
pub mod Plans
pub mod Room
-- Outputs show what was refused.
pub mod Refusals
-- A request that is sent again acts once: in runs, then over stops and starts, then with reports in between.
pub mod Repeats
pub mod Resend
pub mod Apart
pub mod Once
pub mod Attempts
pub mod Histories
pub mod ActsOnce
pub mod Reported
pub mod Counted
-- What was said with clients is such a history.
pub mod Conversations
pub mod Replied
-- Clients that are served together.
pub mod Begun
pub mod Waiting
-- What was said with clients whose requests come between one another, and what is asked again acts once.
pub mod Last
pub mod Exchanges
pub mod Asked
-- Several brokers are one.
pub mod Shards
-- A reply that reports an error has changed nothing, and who lacks the login learns nothing. Each body is an object.
pub mod Errors
pub mod Bodies
pub mod Logins
-- Trimmed lives answer as the lives do.
pub mod Trimmed
-- For contracts inside the crate.
pub mod Answering
pub mod Groups
pub mod Inside
pub mod Prepared
pub mod Refused
