-- What public contracts cite, in the order in which to read it.

-- Lives without contexts, and the current context.
pub mod Bare
pub mod Context
-- Laws of both.
pub mod Laws
