-- The definitions that the contracts of `reading` cite.
pub mod Calls
pub mod inner
