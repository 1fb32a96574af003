-- The definitions that the contracts of `new_list` cite.
pub mod inner
