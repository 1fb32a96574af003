-- The theorems on growth and write.
pub mod Index
pub mod Cells
pub mod Allocators
pub mod Holds
pub mod Lists
pub mod Grown
pub mod Links
pub mod Grows
pub mod Fills
pub mod Plain
pub mod Looks
pub mod Widths
pub mod States
pub mod Turns
pub mod Loops
pub mod Stands
pub mod Writes
pub mod Counts
pub mod Counting
pub mod Listed
mod Examples
