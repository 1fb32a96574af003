-- The definitions that the contracts of `told_files` cite.
pub mod Contents
