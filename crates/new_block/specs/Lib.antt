-- The definitions that the contracts of `new_block` cite.
pub mod inner
