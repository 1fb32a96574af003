-- The definitions that the contracts of `audit` cite.
pub mod Check
pub mod inner
