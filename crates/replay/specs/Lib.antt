-- The definitions that the contracts of `replay` cite.
pub mod Lists
pub mod Files
pub mod Blocks
