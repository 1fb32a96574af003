-- The theorems on the store.
pub mod Records
pub mod Overwrites
pub mod Files
pub mod Windows
pub mod Tables
pub mod Store
pub mod Again
pub mod Truncates
pub mod Changes
pub mod Named
pub mod Contents
pub mod Kept
pub mod Ends
pub mod Steps
pub mod Puts
pub mod Resizes
pub mod Came
pub mod AnyEnd
pub mod Demands
pub mod Looks
pub mod ReadBack
pub mod AnyVisits
pub mod Exact
pub mod Runs
mod Examples
mod Marked
