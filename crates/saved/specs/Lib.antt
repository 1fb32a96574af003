-- The definitions that the contracts of `saved` cite.
pub mod Save
pub mod Load
pub mod inner
