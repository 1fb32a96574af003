-- The definitions that the contracts of `window` and of the crates above it cite.
pub mod Value
pub mod Scan
pub mod Allocate
pub mod inner
