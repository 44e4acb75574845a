-- What public contracts cite, in the order in which to read it: each file has one law, or a few.

pub mod Exclusive
pub mod Statuses
pub mod AskedAgain
pub mod OpenedStays
pub mod Reported
pub mod Apart
pub mod Failures
pub mod Bodies
