-- The definitions that the contracts of `alloc` cite.
pub mod Visits
pub mod Allocate
pub mod inner
