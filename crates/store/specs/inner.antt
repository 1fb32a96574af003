-- A write or truncate as the inner functions of `store` go about it.
pub mod Store
pub mod Calls
pub mod Gives
