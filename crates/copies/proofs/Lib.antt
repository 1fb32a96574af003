-- The laws of the passes that copy.
pub mod Copying
pub mod Outcomes
