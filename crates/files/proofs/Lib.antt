-- The laws of the file table.
pub mod Tests
pub mod Laws
pub mod Turns
pub mod Lists
pub mod Cases
pub mod Others
pub mod Searches
pub mod Kept
pub mod Replaced
pub mod Seeking
pub mod Sums
pub mod Examples
