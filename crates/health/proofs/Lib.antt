-- The laws of the health bytes, for the crates above.
pub mod Health
pub mod Runs
