-- The definitions that the contracts of `grow` cite.
pub mod Setting
pub mod Growth
pub mod Extend
pub mod inner
