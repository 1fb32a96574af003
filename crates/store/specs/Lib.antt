-- The definitions that the contracts of `store` cite.
pub mod Asked
pub mod Store
pub mod inner
