-- What public contracts cite, in the order in which to read it.

-- The settings as the broker decides by them, and what holds of all settings.
pub mod Rules
pub mod SettingsData
pub mod Sound
-- Which settings a file has, or the first fault anywhere in it.
pub mod Faults
pub mod Order
pub mod FaultNames
-- Each fault: fields that are missing or left out, ids, versions, modes, logins.
pub mod Missing
pub mod Tables
pub mod Kinds
pub mod Fields
pub mod Items
pub mod Ids
pub mod Versions
pub mod Modes
pub mod Logins
-- The settings of a file without faults, and the catalog that a platform is shown.
pub mod Contents
pub mod Catalog
-- Where in a file a fault is.
pub mod Found
-- For contracts inside the crate.
pub mod Inside
pub mod IdPositions
pub mod IdSet
pub mod Pieces
