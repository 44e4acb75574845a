-- What public contracts cite, in the order in which to read it.

-- What the next run may find after a stop, and where runs lead with a stop of the machine behind each.
pub mod Restart
pub mod Runs
