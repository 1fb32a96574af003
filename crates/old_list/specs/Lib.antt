-- The definitions that the contracts of `old_list` cite.
pub mod Write
pub mod inner
