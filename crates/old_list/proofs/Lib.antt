-- The laws of the lookups of a write.
pub mod Index
pub mod Looks
pub mod Heads
