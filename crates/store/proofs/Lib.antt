-- The laws of the store.
pub mod Tested
pub mod Files
pub mod Calls
pub mod Parts
pub mod Fronts
pub mod Tried
pub mod Equal
pub mod Same
pub mod Refusals
pub mod Examples
pub mod Shrinking
pub mod Refusing
