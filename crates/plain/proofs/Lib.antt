-- The theorems on sound lists.
pub mod Same
pub mod Walks
pub mod Lookups
pub mod Countdowns
pub mod Visits
pub mod Growing
pub mod Spans
pub mod Indexes
pub mod Finding
pub mod Files
pub mod Reading
pub mod Checking
pub mod Faults
pub mod Frames
mod Examples
