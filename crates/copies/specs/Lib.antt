-- The definitions that the contracts of `copies` cite.
pub mod inner
