-- The definitions that the contracts of `ctz` cite.
pub mod Lists
pub mod Lookup
pub mod Visits
pub mod inner
