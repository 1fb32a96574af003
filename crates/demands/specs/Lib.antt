-- What the theorems on the store speak of.
pub mod Calls
pub mod Came
pub mod Space
pub mod Plain
pub mod Looks
pub mod Runs
pub mod Demands
