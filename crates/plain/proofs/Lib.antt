-- lists and links
pub mod Lists
pub mod Links
pub mod Reached
-- the pool
pub mod Shape
pub mod Writes
pub mod Books
pub mod Placing
pub mod Removing
pub mod Grace
-- the board
pub mod Checks
pub mod Follows
pub mod Uplink
pub mod New
-- sightings and walks
pub mod Told
pub mod Sightings
pub mod Way
pub mod Walks
pub mod States
-- removals and waits
pub mod Counts
pub mod Events
pub mod Echo
pub mod Settled
-- all of it
pub mod Theorem
pub mod Sanity
pub mod Flights
