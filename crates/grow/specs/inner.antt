-- A growth as its inner functions go about it.
pub mod Setting
pub mod Grow
pub mod Attempt
pub mod Extend
pub mod Gives
