-- The definitions that the contracts of `files` cite.
pub mod Table
pub mod Change
pub mod Seek
pub mod inner
