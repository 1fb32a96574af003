-- The laws of the records.
mod Placed
mod Tables
mod Agreeing
pub mod Bare
