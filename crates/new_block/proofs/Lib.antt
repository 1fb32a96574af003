-- The laws of a block that is filled.
pub mod Blanks
pub mod Fills
pub mod Tails
