-- The definitions that the contracts of `told_lists` cite.
pub mod Lists
