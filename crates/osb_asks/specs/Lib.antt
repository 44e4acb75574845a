-- What public contracts cite, in the order in which to read it.

-- The ask of a request, or its first fault.
pub mod Asks
pub mod Reads
-- Who is let in, and by which route: the path, its door, the login, the version, the route.
pub mod Admission
pub mod Targets
pub mod Doors
pub mod Credentials
pub mod Versions
pub mod Routes
pub mod Resources
-- What each route asks.
pub mod Instances
pub mod Bindings
pub mod Backend
-- What those read: ids and numbers of the path, the query, the body, the catalog.
pub mod Ids
pub mod Queries
pub mod Bodies
pub mod Offers
-- What is said of an ask once it was read.
pub mod Subjects
pub mod ValidTexts
pub mod Texts
-- The paths behind the doors once more, as a table, which a law holds against `Resources`.
pub mod Paths
-- For contracts inside the crate.
pub mod Seen
pub mod SegmentsLeft
pub mod Contents
