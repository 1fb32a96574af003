-- The definitions that the contracts of `told_windows` cite.
pub mod Windows
