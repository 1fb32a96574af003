-- The definitions that the contracts of `told_tables` cite.
pub mod Tables
