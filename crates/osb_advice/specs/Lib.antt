-- What public contracts cite, in the order in which to read it.

-- Which value is wanted where a fault is, and why a file has no object.
pub mod Wanted
pub mod Unreadable
pub mod Paths
-- The remarks on a file: when orders are carried out, members that are read past, plans of one name, names with a
-- space, a login of both doors, passwords that are guessed easily, bindings that give nothing.
pub mod Remarks
pub mod Timings
pub mod Past
pub mod Names
pub mod Spaces
pub mod SameLogin
pub mod Passwords
pub mod Nothing
