-- What public contracts cite, in the order in which to read it.

-- The names of lists of bytes.
pub mod Names
-- The object that a text has, or its first fault; and which numbers it may have.
pub mod Reading
pub mod Whole
-- Objects as values, and what a look-up of a member gives.
pub mod Object
pub mod Member
-- Compact texts, and the order of names in them.
pub mod ObjectText
pub mod Order
-- Which texts may be an id.
pub mod Id
