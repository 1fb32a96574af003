-- The definitions that the contracts of `health` cite.
pub mod Health
pub mod inner
