-- The laws of the list check.
pub mod Falling
pub mod Further
pub mod Checks
mod Examples
