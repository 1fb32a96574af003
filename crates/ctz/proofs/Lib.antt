-- The laws of lookup and visit.
pub mod Sounds
pub mod Room
pub mod Walked
pub mod Lookups
pub mod Through
pub mod Counts
pub mod Steps
pub mod Visiting
pub mod Runs
mod Examples
